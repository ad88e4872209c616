-- What a taking of uses waits for stays so, while other workers let nobody go on.
use Rattle.std.proofs.Common.{◌≡◌, ◌≢◌, ◌≤◌, ◌+◌, ◌⊎◌, ℕ, Bool, true, false, cond, List, None, Some, inl, inr, refl, sym, ◌∙◌, arith}
use Rattle.std.specs.List.{Any}
use Rattle.std.proofs.lemmas.Bool.{false≢true}
use Rattle.resource_lock.proofs.lemmas.Kept.{leases-with_holding}
use Rattle.resource_lock.proofs.lemmas.Lists.{get_or-set_cases}
use Rattle.resource_lock.proofs.lemmas.Others as others
use Rattle.resource_lock.proofs.lemmas.Runs.{same_shape-make}
use Rattle.lock_journal.specs.Names.{can, holding_after, make, SameShape, IsWorkerOf, StateView, holding_of, is_parked, leases_out, owner_of, runs_by}
use Rattle.lock_journal.specs.Names.{runs_task, runs_unit, Change, Enter, Give, Leave, Lock, Move, Take, Unlock, Unpark, LockId, WorkerId, Waiting}
use Rattle.lock_journal.specs.Names.{ActionOf, TaskOf, UnitOf, lets_go_on}
use Rattle.resource_lock.specs.declared.changes.Change.TheVariants.{Park}
use Rattle.lock_transforms.proofs.lemmas.Disabled.{any_same}
use Rattle.lock_transforms.specs.GoingOn.{WaitsForNews}
use Rattle.shared_services.specs.Services.{IsFull}
use Rattle.shared_services.specs.Takings.{IsShort, MayNotTake, has_nothing}

-- a lock that has an owner has one, unless it is given back
owned_still : (s : StateView) (v : WorkerId) (c : Change) (l : LockId) → lets_go_on c ≡ false → owner_of s l ≢ None → owner_of (make s v c) l ≢ None
owned_still s v (Lock k) l quiet own = elim (get_or-set_cases s.owners k.0 l.0 (Some v) None) [
  | inl at ↦ (λ none. let some : Some v ≡ None = sym at.1 ∙ none in absurd (cc))
  | inr off ↦ (λ none. own (sym off ∙ none))
]
owned_still s v (Unlock k) l quiet own = absurd (false≢true (sym quiet))
owned_still s v Take l quiet own = own
owned_still s v Give l quiet own = own
owned_still s v (Move m from to) l quiet own = moved m
  where
    moved : (m : _) → owner_of (make s v (Move m from to)) l ≢ None
    moved (TaskOf t) = own
    moved (ActionOf a) = own
    moved (UnitOf u) = own
owned_still s v (Park k) l quiet own = own
owned_still s v (Unpark k) l quiet own = own
owned_still s v Enter l quiet own = own
owned_still s v Leave l quiet own = own

lease_at_most : (b : Bool) (m n : ℕ) → m + cond b 1 0 ≡ n + 1 → n ≤ m
lease_at_most true m n is = omega (arith, is)
lease_at_most false m n is = omega (arith, is)

same_lease : (k m n : ℕ) → m + k ≡ n + k → n ≤ m
same_lease k m n is = omega (arith, is)

-- no fewer leases are out, unless one is given back
leased_still : (s : StateView) (v : WorkerId) (c : Change) → IsWorkerOf s v → lets_go_on c ≡ false → leases_out s ≤ leases_out (make s v c)
leased_still s v (Lock k) from quiet = omega arith
leased_still s v (Unlock k) from quiet = omega arith
leased_still s v Take from quiet = lease_at_most (holding_of s v).lease (leases_out (make s v Take)) (leases_out s) (leases-with_holding s v (holding_after (holding_of s v) Take) from)
leased_still s v Give from quiet = absurd (false≢true (sym quiet))
leased_still s v (Move (TaskOf t) a b) from quiet = omega arith
leased_still s v (Move (ActionOf t) a b) from quiet = omega arith
leased_still s v (Move (UnitOf t) a b) from quiet = omega arith
leased_still s v (Park k) from quiet = same_lease _ (leases_out (make s v (Park k))) (leases_out s) (leases-with_holding s v (holding_after (holding_of s v) (Park k)) from)
leased_still s v (Unpark k) from quiet = same_lease _ (leases_out (make s v (Unpark k))) (leases_out s) (leases-with_holding s v (holding_after (holding_of s v) (Unpark k)) from)
leased_still s v Enter from quiet = same_lease _ (leases_out (make s v Enter)) (leases_out s) (leases-with_holding s v (holding_after (holding_of s v) Enter) from)
leased_still s v Leave from quiet = same_lease _ (leases_out (make s v Leave)) (leases_out s) (leases-with_holding s v (holding_after (holding_of s v) Leave) from)

-- a change of another worker leaves whether a worker has anything
nothing_same : (s : StateView) (v w : WorkerId) (c : Change) → v.0 ≢ w.0 → can s v c ≡ true → has_nothing (make s v c) w ≡ has_nothing s w
nothing_same s v w c other possible =
    let same : others.SameFor w s (make s v c) = others.others_keep s v w c (λ e. other (sym e)) possible in
    let shape : SameShape s (make s v c) = same_shape-make s v c in
    let task : runs_task (make s v c) w ≡ runs_task s w = any_same (runs_by w) Waiting s.tasks (make s v c).tasks shape.tasks (λ i. same.runs (TaskOf i)) in
    let parked : is_parked (make s v c) w ≡ is_parked s w = any_same (runs_by w) Waiting s.actions (make s v c).actions shape.actions (λ i. same.runs (ActionOf i)) in
    let unit : runs_unit (make s v c) w ≡ runs_unit s w = any_same (runs_by w) Waiting s.units (make s v c).units shape.units (λ i. same.runs (UnitOf i)) in
    rw (same.holding, task, parked, unit) refl

short_still : (maxima asked : List ℕ) (s : StateView) (v : WorkerId) (c : Change) → IsWorkerOf s v → lets_go_on c ≡ false → IsShort maxima asked s → IsShort maxima asked (make s v c)
short_still maxima asked s v c from quiet short = elim short [
  | inl full ↦ inl (full_any full)
  | inr leases ↦ inr (omega (arith, leases, leased_still s v c from quiet, (same_shape-make s v c).max_leases))
]
  where
    full_any : Any (λ service. IsFull maxima s service) asked → Any (λ service. IsFull maxima (make s v c) service) asked
    full_any full = (full.0, full.1, full.2, full.3, λ l of. owned_still s v c l quiet (full.4 l of))

pub waits_for_uses : (maxima asked : List ℕ) (waits fails : Type 0)
    → WaitsForNews (λ g w s. MayNotTake maxima g w s ⊎ (waits × IsShort maxima asked s)) (λ g w s. fails × IsShort maxima asked s)
waits_for_uses maxima asked waits fails = λ g s v w c belongs good from own other named possible quiet again. elim again [
  | inl not_yet ↦ inl (inl (elim not_yet [ inl locks ↦ inl locks | inr busy ↦ inr (nothing_same s v w c other possible ∙ busy) ]))
  | inr short ↦ inl (inr (short.0, short_still maxima asked s v c from quiet short.1))
]
