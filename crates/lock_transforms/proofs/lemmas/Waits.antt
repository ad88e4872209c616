-- What transforms wait for whose changes the kind fixes.
use Rattle.std.proofs.Common.{◌≡◌, ◌≢◌, ◌<◌, ◌⊎◌, ℕ, Bool, true, false, inl, inr, refl, sym, ◌∙◌, ap}
use Rattle.std.proofs.lemmas.Bool.{false≢true, false_from_ne_true}
use Rattle.resource_lock.proofs.lemmas.Undo.{same_mark_is}
use Rattle.resource_lock.specs.GraphView.{GraphView}
use Rattle.resource_lock.specs.StateView.{StateView, mark_of}
use Rattle.resource_lock.specs.Change.{make, same_mark}
use Rattle.resource_lock.specs.declared.ids.WorkerId.{WorkerId}
use Rattle.resource_lock.specs.declared.marks.Mark.TheVariants.{Queued}
use Rattle.resource_lock.specs.declared.marks.MarkId.TheVariants.{Unit as UnitOf}
use Rattle.lock_transforms.specs.Allowed.{IsDisabled, IsUnmet}
use Rattle.lock_transforms.specs.Table.{condition, is_enabled}
use Rattle.lock_transforms.specs.GoingOn.{WaitsForNews}
use Rattle.lock_transforms.specs.declared.entries.Kind.{Kind}
use Rattle.lock_transforms.specs.declared.entries.Kind.TheVariants.{Claim}
use Rattle.lock_transforms.proofs.lemmas.Disabled.{condition_still, disabled_still}
use Rattle.lock_transforms.proofs.NoMore.{no_more_after}

true_or_false : (b : Bool) → (b ≡ true) ⊎ (b ≡ false)
true_or_false true = inl refl
true_or_false false = inr refl

-- one that is to be run again where its entry can't finish waits for news
pub waits_disabled : (k : Kind) (fails : GraphView → WorkerId → StateView → Type 0) → WaitsForNews (IsDisabled k) fails
waits_disabled k fails = λ g s v w c belongs good from own other named possible quiet disabled. inl (λ in_range. disabled_still g s v w c from own other possible quiet k (disabled in_range))

-- so does one that fails where its unit isn't queued any more
pub waits_queued : (u : ℕ) → WaitsForNews (λ g w s. u < g.units → (mark_of s (UnitOf u) ≡ Queued) × (is_enabled g s w (Claim u) ≡ false)) (λ g w s. mark_of s (UnitOf u) ≢ Queued)
waits_queued u = λ g s v w c belongs good from own other named possible quiet waits. elim (true_or_false (same_mark (mark_of (make s v c) (UnitOf u)) Queued)) [
  | inl queued ↦ inl (λ in_range. (same_mark_is (mark_of (make s v c) (UnitOf u)) Queued queued, disabled_still g s v w c from own other possible quiet (Claim u) (waits in_range).1))
  | inr moved ↦ inr (λ is. false≢true (sym moved ∙ ap (λ m. same_mark m Queued) is))
]

-- one that is to be run again only where its condition doesn't hold
pub waits_unmet : (k : Kind) (fails : GraphView → WorkerId → StateView → Type 0) → WaitsForNews (IsUnmet k) fails
waits_unmet k fails = λ g s v w c belongs good from own other named possible quiet unmet.
    inl (λ in_range. false_from_ne_true (condition g (make s v c) w k) (λ h. false≢true (sym (unmet in_range) ∙ condition_still (no_more_after s v w c from other possible quiet) g k h)))
