use Rattle.std.proofs.Common.{◌≡◌, true, false, not, ◌&&◌, sym, ◌∙◌, ap, subst, if◌then◌else◌, is_none}
use Rattle.resource_lock.proofs.lemmas.Runs.{belongs_along, same_shape-make, worker_from}
use Rattle.resource_lock.proofs.lemmas.Kept.{kept}
use Rattle.resource_lock.specs.StateView.{IsLockOf, IsWorkerOf, has_parked, kept_from, owner_of}
use Rattle.resource_lock.specs.Change.{make}
use Rattle.resource_lock.specs.Good.{Good}
use Rattle.resource_lock.specs.Shape.{BelongsTo}
use Rattle.resource_lock.specs.declared.changes.Change.TheVariants.{Lock}
use Rattle.lock_transforms.specs.TentativeView.{TentativeView}
use Rattle.lock_transforms.proofs.tentatives.Tentative.lock.Goals as goal

pub invariant_of-self : goal.invariant_of-self
invariant_of-self c =
    let s = c.self.inside.state in
    let w = c.self.inside.worker in
    let l = c.args.lock in
    let worker : IsWorkerOf s w = worker_from c.self.inside.graph s w c.self.invariant.belongs c.self.invariant.worker in
    let named : IsLockOf s l = subst (λ (t : TentativeView). IsLockOf t.state l) (sym c.self.view_is) c.requires.lock_in_range in
    let free : is_none (owner_of s l) ≡ true = ap is_none (sym c.owner.ensures) ∙ ap not c.if-was_free.ensures in
    let unkept : not (kept_from s w l) ≡ true = sym c.try_lock-owns.ensures.answer ∙ c.if-owns.true in
    let unparked : has_parked s w l ≡ false = ap (λ (t : TentativeView). has_parked t.state t.worker l) c.self.view_is ∙ c.requires.not_parked in
    let makes : c.try_lock-owns.new.self ≡ make s w (Lock l) = c.try_lock-owns.ensures.state ∙ (λ i. if free i && unkept i then make s w (Lock l) else s) in
    record {
      fits = c.self.invariant.fits;
      belongs = subst (BelongsTo c.self.inside.graph) (sym makes) (belongs_along c.self.inside.graph s (make s w (Lock l)) (same_shape-make s w (Lock l)) c.self.invariant.belongs);
      worker = c.self.invariant.worker;
      good = subst Good (sym makes) (kept s w (Lock l) worker named c.self.invariant.good (λ i. free i && unkept i && not (unparked i)));
    }
