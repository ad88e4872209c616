use Rattle.std.proofs.Common.{◌≡◌, true, sym, ◌∙◌, ap, subst}
use Rattle.resource_lock.proofs.lemmas.Runs.{belongs_along, same_shape-make, worker_from}
use Rattle.resource_lock.proofs.lemmas.Kept.{kept}
use Rattle.resource_lock.specs.StateView.{IsWorkerOf}
use Rattle.resource_lock.specs.Change.{can, make, NamesOnly}
use Rattle.resource_lock.specs.Good.{Good}
use Rattle.resource_lock.specs.Shape.{BelongsTo}
use Rattle.lock_transforms.specs.TentativeView.{TentativeView}
use Rattle.lock_transforms.proofs.tentatives.Tentative.change.Goals as goal

pub invariant_of-self : goal.invariant_of-self
invariant_of-self c =
    let worker : IsWorkerOf c.self.inside.state c.self.inside.worker = worker_from c.self.inside.graph c.self.inside.state c.self.inside.worker c.self.invariant.belongs c.self.invariant.worker in
    let named : NamesOnly c.self.inside.state c.args.change = subst (λ (t : TentativeView). NamesOnly t.state c.args.change) (sym c.self.view_is) c.requires.named in
    let possible : can c.self.inside.state c.self.inside.worker c.args.change ≡ true = ap (λ (t : TentativeView). can t.state t.worker c.args.change) c.self.view_is ∙ c.requires.possible in
    record {
      fits = c.self.invariant.fits;
      belongs = subst (BelongsTo c.self.inside.graph) (sym c.make.ensures) (belongs_along c.self.inside.graph c.self.inside.state (make c.self.inside.state c.self.inside.worker c.args.change) (same_shape-make c.self.inside.state c.self.inside.worker c.args.change) c.self.invariant.belongs);
      worker = c.self.invariant.worker;
      good = subst Good (sym c.make.ensures) (kept c.self.inside.state c.self.inside.worker c.args.change worker named c.self.invariant.good possible);
    }
