use Rattle.std.proofs.Common.{◌≡◌, List, sym, subst}
use Rattle.resource_lock.specs.declared.changes.Change.{Change}
use Rattle.resource_lock.specs.Good.{Good}
use Rattle.resource_lock.specs.Shape.{SameShape, BelongsTo}
use Rattle.resource_lock.specs.Leading.{CameFrom}
use Rattle.resource_lock.proofs.lemmas.Runs.{same_shape-make_all, same_shape-sym, belongs_along}
use Rattle.lock_transforms.specs.TentativeView.{TentativeView}
use Rattle.lock_transforms.proofs.tentatives.Tentative.take_back.Goals as goal

pub invariant_of-self : goal.invariant_of-self
invariant_of-self c =
    let came : CameFrom c.requires.0 c.self.inside.state c.args.worker c.self.inside.made.items = subst (λ (t : TentativeView). CameFrom c.requires.0 t.state c.args.worker t.made) (sym c.self.view_is) c.requires.1 in
    let back : c.take_back.new.self ≡ c.requires.0 = c.take_back.ensures c.requires.0 (subst (λ (cs : List Change). CameFrom c.requires.0 c.self.inside.state c.args.worker cs) (sym c.deref.ensures.value) came) in
    let same : SameShape c.requires.0 c.self.inside.state = subst (SameShape c.requires.0) (sym came.state) (same_shape-make_all c.requires.0 c.args.worker c.self.inside.made.items) in
    record {
      fits = c.self.invariant.fits;
      belongs = subst (BelongsTo c.self.inside.graph) (sym back) (belongs_along c.self.inside.graph c.self.inside.state c.requires.0 (same_shape-sym c.requires.0 c.self.inside.state same) c.self.invariant.belongs);
      worker = c.self.invariant.worker;
      good = subst Good (sym back) came.good;
    }
