-- What each call of a worker leaves, by its answer.
use Rattle.std.specs.Prelude.{◌≡◌, ℕ, false, List, None, Some, slice_get}
use Rattle.lock_journal.specs.Names.{IsFixedList, acquired, can_take_all, Shortage, Waits, Fails, holding_of, leases_out, LockId}
use Rattle.lock_transforms.specs.declared.entries.Kind.TheVariants as kinds
use Rattle.coordination.specs.Names.{IsAnswered, blocked_shown, lease_shown, parked_shown}
use Rattle.coordination.specs.declared.rule.Sight.{Sight}
use Rattle.wakhurmi_c.specs.Leaves.{Leaves}
use Rattle.wakhurmi_c.specs.Places.{are_in_order, may_hand_back, may_take}
use Rattle.wakhurmi_c.specs.declared.answers.Answer.{Answer}
use Rattle.wakhurmi_c.specs.declared.answers.Answer.TheVariants.{Done, Again, BadNumber}

-- A lease and locks are taken. Where another worker owns one of the locks, or the worker has no lease and none is free, the
-- call can't be done yet, or fails.
abbrev pub TakeLeaves : Shortage → List LockId → Sight → Sight → Answer → Type 0
TakeLeaves shortage locks = Leaves kinds.Acquire (λ g w s cs. cs ≡ acquired s w locks) (λ g w s. (shortage ≡ Fails) × (can_take_all s w locks ≡ false))
    (λ g w s. (shortage ≡ Waits) × (can_take_all s w locks ≡ false)) (λ sight. are_in_order locks sight.seen.graph.locks ≡ false)
    (λ sight. may_take sight ≡ false)

-- It never fails, and nothing keeps it from being done.
abbrev pub HandBackLeaves : Sight → Sight → Answer → Type 0
HandBackLeaves = Leaves kinds.HandBack (IsFixedList kinds.HandBack) (λ g w s. ⊥) (λ g w s. ⊥) (λ sight. ⊥) (λ sight. may_hand_back sight ≡ false)

-- The same holds of it.
abbrev pub EnterLeaves : Sight → Sight → Answer → Type 0
EnterLeaves = Leaves (kinds.Block None) (IsFixedList (kinds.Block None)) (λ g w s. ⊥) (λ g w s. ⊥) (λ sight. ⊥) (λ sight. lease_shown sight ≡ false)

-- Where another worker owns a lock that the worker has parked, or no lease is free, the call can't be done yet.
abbrev pub LeaveLeaves : Sight → Sight → Answer → Type 0
LeaveLeaves = Leaves (kinds.Unblock None) (IsFixedList (kinds.Unblock None)) (λ g w s. ⊥)
    (λ g w s. can_take_all s w (holding_of s w).parked ≡ false) (λ sight. ⊥) (λ sight. blocked_shown sight ≡ false)

-- So many leases were out in a book that the worker found, or it found none.
abbrev pub CountLeaves : ℕ → Sight → Sight → Answer → Type 0
CountLeaves n old new Done = IsAnswered (λ w book m. m ≡ leases_out book.state) n old new
CountLeaves n old new Again = new ≡ old
CountLeaves n old new _ = ⊥

-- The lock at this place among those that the worker has parked, or there is none.
abbrev pub IsToldParked : ℕ → Sight → ℕ → Answer → Type 0
IsToldParked place sight lock Done = slice_get (parked_shown sight) place ≡ Some (record { 0 = lock })
IsToldParked place sight lock BadNumber = slice_get (parked_shown sight) place ≡ None
IsToldParked place sight lock _ = ⊥
