use Rattle.std.proofs.Common.{◌≡◌, ◌≢◌, ◌⊎◌, length, Option, None, Some, inl, inr, refl, sym, ap, ◌∙◌, arith}
use Rattle.std.proofs.lemmas.Bool.{cases_lt}
use mathlib.Core.Logic.{dite}
use native.Mathlib.Decide.{ℕ_discrete}
use Rattle.lock_journal.specs.Names.{make, owner_of, WorkerId, IsDisabled, Start}
use Rattle.resource_lock.proofs.lemmas.Undo.{same_worker}
use Rattle.lock_transforms.proofs.lemmas.Disabled.{disabled_still}
use Rattle.coordination_tests.proofs.coordination_tests.TryStartTransform.waits_for_news.Goals as goal

by_owner : (o : Option WorkerId) (w : WorkerId) → ((by : WorkerId) → by ≢ w → o ≢ Some by) ⊎ ((by : WorkerId) × (by ≢ w) × (o ≡ Some by))
by_owner None w = inl (λ by ne is. absurd (cc))
by_owner (Some x) w =
    dite (ℕ_discrete x.0 w.0)
    (λ same. inl (λ by ne (is : Some x ≡ Some by). let e : x ≡ by = cc in ne (sym e ∙ same_worker x w same)))
    (λ apart. inr (x, (λ (e : x ≡ w). apart (ap (λ (v : WorkerId). v.0) e)), refl))

pub returns : goal.returns
returns c = λ g s v w change belongs good from own other named possible quiet waits.
    let t = c.args.self.now.wait.start.task in
    let disabled : IsDisabled (Start t) g w (make s v change) = λ in_range. disabled_still g s v w change from own other possible quiet (Start t) (waits.0 in_range) in
    elim (by_owner (owner_of (make s v change) c.args.self.now.lock) w) [
      | inl free ↦ inl (disabled, (λ low. free))
      | inr held ↦ elim (cases_lt t (length g.tasks)) [
        | inl low ↦ inr (low, held.0, held.1, held.2)
        | inr past ↦ inl (disabled, (λ low. absurd (omega arith)))
      ]
    ]
