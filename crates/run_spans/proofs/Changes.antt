-- What a change says is so in the state after it, and of other subjects it says nothing.
use Rattle.std.proofs.Common.{◌≡◌, ℕ, Bool, true, false, ◌||◌, cond, List, [], ◌∷◌, ◌++◌, Some, None, inl, inr, refl, sym, ap, ap₂, ◌∙◌}
use Rattle.std.specs.Prelude.{nat_eq}
use Rattle.std.proofs.lemmas.Bool.{and_parts, eq-eqb, eqb-true, ne_eqb}
use Rattle.std.proofs.lemmas.List.{get_or-set_same, get_or-set_other}
use Rattle.lock_journal.specs.Names.{can, make, holding_after, without_last, NamesOnly, Good, StateView, Holding, empty_holding, holding_of}
use Rattle.lock_journal.specs.Names.{stands_in, IsWorkerOf, Change, Lock, Unlock, Take, Give, Move, Unpark, Enter, Leave, LockId, WorkerId, Mark}
use Rattle.lock_journal.specs.Names.{Waiting, Queued, IsRunning, Passed, Failed, Skipped, TaskOf, ActionOf, UnitOf, names_only}
use Rattle.resource_lock.specs.Change.{with_holding}
use Rattle.resource_lock.specs.StateView.{each_once}
use Rattle.resource_lock.specs.declared.changes.Change.TheVariants.{Park}
use Rattle.resource_lock.proofs.lemmas.Lists.{get_or-set_cases, each_once-front}
use Rattle.resource_lock.proofs.lemmas.Undo.{holding_now, last_from, same_worker, same_lock}
use Rattle.run_spans.specs.Standing.{holder_in, if_so, runner}
use Rattle.run_spans.specs.Subjects.{subject_of, begins, is_running}
use Rattle.run_spans.specs.declared.subjects.Subject.{Subject}
use Rattle.run_spans.specs.declared.subjects.Subject.TheVariants.{Lease, Blocked, Owned, Parked, Running}

-- a mark that names only this worker
runs_it : (to : Mark) (w : WorkerId) → names_only to w ≡ true → runner to ≡ cond (is_running to) (Some w) None
runs_it (IsRunning v) w h = ap (λ (x : WorkerId). Some x) (same_worker v w (eqb-true v.0 w.0 h))
runs_it Waiting w h = refl
runs_it Queued w h = refl
runs_it Passed w h = refl
runs_it Failed w h = refl
runs_it Skipped w h = refl

last_stands : (l : LockId) (locks : List LockId) → stands_in l (locks ++ l ∷ []) ≡ true
last_stands l [] = ap (λ b. b || false) (eq-eqb l.0 l.0 refl)
last_stands l (k ∷ locks) = ap (λ b. nat_eq k.0 l.0 || b) (last_stands l locks) ∙ or_true (nat_eq k.0 l.0)
  where
    or_true : (b : Bool) → (b || true) ≡ true
    or_true true = refl
    or_true false = refl

-- what a change says of its own subject
pub says : (s : StateView) (w : WorkerId) (c : Change) → IsWorkerOf s w → NamesOnly s c → Good s → can s w c ≡ true
    → holder_in (make s w c) (subject_of w c) ≡ cond (begins c) (Some w) None
says s w (Lock l) within named good h = get_or-set_same s.owners l.0 (Some w) None named
says s w (Unlock l) within named good h = get_or-set_same s.owners l.0 None None named
says s w Take within named good h = ap (λ (x : Holding). if_so x.lease w) (holding_now s w (holding_after (holding_of s w) Take) within)
says s w Give within named good h = ap (λ (x : Holding). if_so x.lease w) (holding_now s w (holding_after (holding_of s w) Give) within)
says s w Enter within named good h = ap (λ (x : Holding). if_so x.blocked w) (holding_now s w (holding_after (holding_of s w) Enter) within)
says s w Leave within named good h = ap (λ (x : Holding). if_so x.blocked w) (holding_now s w (holding_after (holding_of s w) Leave) within)
says s w (Park l) within named good h =
    ap (λ (x : Holding). if_so (stands_in l x.parked) w) (holding_now s w (holding_after (holding_of s w) (Park l)) within)
    ∙ ap (λ b. if_so b w) (last_stands l (holding_of s w).parked)
says s w (Unpark l) within named good h =
    ap (λ (x : Holding). if_so (stands_in l x.parked) w) (holding_now s w (holding_after (holding_of s w) (Unpark l)) within)
    ∙ ap (λ b. if_so b w) (each_once-front (without_last (holding_of s w).parked) l (ap each_once (last_from (holding_of s w).parked l h) ∙ good.parked_once w)).1
says s w (Move (TaskOf t) from to) within named good h = ap runner (get_or-set_same s.tasks t to Waiting named) ∙ runs_it to w (and_parts _ (names_only to w) h).1
says s w (Move (ActionOf a) from to) within named good h = ap runner (get_or-set_same s.actions a to Waiting named) ∙ runs_it to w (and_parts _ (names_only to w) h).1
says s w (Move (UnitOf u) from to) within named good h = ap runner (get_or-set_same s.units u to Waiting named) ∙ runs_it to w (and_parts _ (names_only to w) h).1

-- a part of a holding that a new one of worker w has too
same_part : {X : Type 0} (f : Holding → X) (s : StateView) (w v : WorkerId) (x : Holding) → (v.0 ≡ w.0 → f x ≡ f (holding_of s w)) → f (holding_of (with_holding s w x) v) ≡ f (holding_of s v)
same_part f s w v x keeps = elim (get_or-set_cases s.holdings w.0 v.0 x empty_holding) [
  | inl at ↦ ap f at.1 ∙ keeps at.0 ∙ ap (λ (y : WorkerId). f (holding_of s y)) (sym (same_worker v w at.0))
  | inr off ↦ ap f off
]

-- one more lock at the end, or one less, is no other
other_last : (k l : LockId) (locks : List LockId) → (k.0 ≡ l.0 → ⊥) → stands_in k (locks ++ l ∷ []) ≡ stands_in k locks
other_last k l [] other = ap (λ b. b || false) (ne_eqb l.0 k.0 (λ e. other (sym e)))
other_last k l (j ∷ locks) other = ap (λ b. nat_eq j.0 k.0 || b) (other_last k l locks other)

-- the change of a holding leaves subjects of other kinds alone
pub leaves : (s : StateView) (w : WorkerId) (c : Change) (t : Subject) → can s w c ≡ true → (t ≡ subject_of w c → ⊥) → holder_in (make s w c) t ≡ holder_in s t
leaves s w (Lock l) (Owned k) h other = get_or-set_other s.owners l.0 k.0 (Some w) None (λ e. other (ap (λ (x : LockId). Owned x) (same_lock k l e)))
leaves s w (Unlock l) (Owned k) h other = get_or-set_other s.owners l.0 k.0 None None (λ e. other (ap (λ (x : LockId). Owned x) (same_lock k l e)))
leaves s w (Move (TaskOf m) from to) (Running (TaskOf n)) h other = ap runner (get_or-set_other s.tasks m n to Waiting (λ e. other (ap (λ (x : ℕ). Running (TaskOf x)) e)))
leaves s w (Move (ActionOf m) from to) (Running (ActionOf n)) h other = ap runner (get_or-set_other s.actions m n to Waiting (λ e. other (ap (λ (x : ℕ). Running (ActionOf x)) e)))
leaves s w (Move (UnitOf m) from to) (Running (UnitOf n)) h other = ap runner (get_or-set_other s.units m n to Waiting (λ e. other (ap (λ (x : ℕ). Running (UnitOf x)) e)))
leaves s w Take (Lease v) h other = same_part (λ (x : Holding). if_so x.lease v) s w v (holding_after (holding_of s w) Take) (λ e. absurd (other (ap (λ (x : WorkerId). Lease x) (same_worker v w e))))
leaves s w Take (Blocked v) h other = same_part (λ (x : Holding). if_so x.blocked v) s w v (holding_after (holding_of s w) Take) (λ e. refl)
leaves s w Take (Parked v k) h other = same_part (λ (x : Holding). if_so (stands_in k x.parked) v) s w v (holding_after (holding_of s w) Take) (λ e. refl)
leaves s w Give (Lease v) h other = same_part (λ (x : Holding). if_so x.lease v) s w v (holding_after (holding_of s w) Give) (λ e. absurd (other (ap (λ (x : WorkerId). Lease x) (same_worker v w e))))
leaves s w Give (Blocked v) h other = same_part (λ (x : Holding). if_so x.blocked v) s w v (holding_after (holding_of s w) Give) (λ e. refl)
leaves s w Give (Parked v k) h other = same_part (λ (x : Holding). if_so (stands_in k x.parked) v) s w v (holding_after (holding_of s w) Give) (λ e. refl)
leaves s w Enter (Lease v) h other = same_part (λ (x : Holding). if_so x.lease v) s w v (holding_after (holding_of s w) Enter) (λ e. refl)
leaves s w Enter (Blocked v) h other = same_part (λ (x : Holding). if_so x.blocked v) s w v (holding_after (holding_of s w) Enter) (λ e. absurd (other (ap (λ (x : WorkerId). Blocked x) (same_worker v w e))))
leaves s w Enter (Parked v k) h other = same_part (λ (x : Holding). if_so (stands_in k x.parked) v) s w v (holding_after (holding_of s w) Enter) (λ e. refl)
leaves s w Leave (Lease v) h other = same_part (λ (x : Holding). if_so x.lease v) s w v (holding_after (holding_of s w) Leave) (λ e. refl)
leaves s w Leave (Blocked v) h other = same_part (λ (x : Holding). if_so x.blocked v) s w v (holding_after (holding_of s w) Leave) (λ e. absurd (other (ap (λ (x : WorkerId). Blocked x) (same_worker v w e))))
leaves s w Leave (Parked v k) h other = same_part (λ (x : Holding). if_so (stands_in k x.parked) v) s w v (holding_after (holding_of s w) Leave) (λ e. refl)
leaves s w (Park l) (Lease v) h other = same_part (λ (x : Holding). if_so x.lease v) s w v (holding_after (holding_of s w) (Park l)) (λ e. refl)
leaves s w (Park l) (Blocked v) h other = same_part (λ (x : Holding). if_so x.blocked v) s w v (holding_after (holding_of s w) (Park l)) (λ e. refl)
leaves s w (Park l) (Parked v k) h other = same_part (λ (x : Holding). if_so (stands_in k x.parked) v) s w v (holding_after (holding_of s w) (Park l)) (λ e. ap (λ b. if_so b v) (other_last k l (holding_of s w).parked (λ n. other (ap₂ (λ (x : WorkerId) (y : LockId). Parked x y) (same_worker v w e) (same_lock k l n)))))
leaves s w (Unpark l) (Lease v) h other = same_part (λ (x : Holding). if_so x.lease v) s w v (holding_after (holding_of s w) (Unpark l)) (λ e. refl)
leaves s w (Unpark l) (Blocked v) h other = same_part (λ (x : Holding). if_so x.blocked v) s w v (holding_after (holding_of s w) (Unpark l)) (λ e. refl)
leaves s w (Unpark l) (Parked v k) h other = same_part (λ (x : Holding). if_so (stands_in k x.parked) v) s w v (holding_after (holding_of s w) (Unpark l)) (λ e. ap (λ b. if_so b v) (sym (other_last k l (without_last (holding_of s w).parked) (λ n. other (ap₂ (λ (x : WorkerId) (y : LockId). Parked x y) (same_worker v w e) (same_lock k l n)))) ∙ ap (stands_in k) (last_from (holding_of s w).parked l h)))
leaves s w Take (Owned k) h other = refl
leaves s w Take (Running (TaskOf n)) h other = refl
leaves s w Take (Running (ActionOf n)) h other = refl
leaves s w Take (Running (UnitOf n)) h other = refl
leaves s w Give (Owned k) h other = refl
leaves s w Give (Running (TaskOf n)) h other = refl
leaves s w Give (Running (ActionOf n)) h other = refl
leaves s w Give (Running (UnitOf n)) h other = refl
leaves s w Enter (Owned k) h other = refl
leaves s w Enter (Running (TaskOf n)) h other = refl
leaves s w Enter (Running (ActionOf n)) h other = refl
leaves s w Enter (Running (UnitOf n)) h other = refl
leaves s w Leave (Owned k) h other = refl
leaves s w Leave (Running (TaskOf n)) h other = refl
leaves s w Leave (Running (ActionOf n)) h other = refl
leaves s w Leave (Running (UnitOf n)) h other = refl
leaves s w (Park l) (Owned k) h other = refl
leaves s w (Park l) (Running (TaskOf n)) h other = refl
leaves s w (Park l) (Running (ActionOf n)) h other = refl
leaves s w (Park l) (Running (UnitOf n)) h other = refl
leaves s w (Unpark l) (Owned k) h other = refl
leaves s w (Unpark l) (Running (TaskOf n)) h other = refl
leaves s w (Unpark l) (Running (ActionOf n)) h other = refl
leaves s w (Unpark l) (Running (UnitOf n)) h other = refl
leaves s w (Lock l) (Lease v) h other = refl
leaves s w (Lock l) (Blocked v) h other = refl
leaves s w (Lock l) (Parked v k) h other = refl
leaves s w (Lock l) (Running (TaskOf n)) h other = refl
leaves s w (Lock l) (Running (ActionOf n)) h other = refl
leaves s w (Lock l) (Running (UnitOf n)) h other = refl
leaves s w (Unlock l) (Lease v) h other = refl
leaves s w (Unlock l) (Blocked v) h other = refl
leaves s w (Unlock l) (Parked v k) h other = refl
leaves s w (Unlock l) (Running (TaskOf n)) h other = refl
leaves s w (Unlock l) (Running (ActionOf n)) h other = refl
leaves s w (Unlock l) (Running (UnitOf n)) h other = refl
leaves s w (Move (TaskOf m) from to) (Lease v) h other = refl
leaves s w (Move (TaskOf m) from to) (Blocked v) h other = refl
leaves s w (Move (TaskOf m) from to) (Parked v k) h other = refl
leaves s w (Move (TaskOf m) from to) (Owned k) h other = refl
leaves s w (Move (TaskOf m) from to) (Running (ActionOf n)) h other = refl
leaves s w (Move (TaskOf m) from to) (Running (UnitOf n)) h other = refl
leaves s w (Move (ActionOf m) from to) (Lease v) h other = refl
leaves s w (Move (ActionOf m) from to) (Blocked v) h other = refl
leaves s w (Move (ActionOf m) from to) (Parked v k) h other = refl
leaves s w (Move (ActionOf m) from to) (Owned k) h other = refl
leaves s w (Move (ActionOf m) from to) (Running (TaskOf n)) h other = refl
leaves s w (Move (ActionOf m) from to) (Running (UnitOf n)) h other = refl
leaves s w (Move (UnitOf m) from to) (Lease v) h other = refl
leaves s w (Move (UnitOf m) from to) (Blocked v) h other = refl
leaves s w (Move (UnitOf m) from to) (Parked v k) h other = refl
leaves s w (Move (UnitOf m) from to) (Owned k) h other = refl
leaves s w (Move (UnitOf m) from to) (Running (TaskOf n)) h other = refl
leaves s w (Move (UnitOf m) from to) (Running (ActionOf n)) h other = refl
