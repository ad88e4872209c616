-- A worker that sets down its lease and its locks.
use Rattle.std.proofs.Common.{◌≡◌, ℕ, ◌+◌, ◌<◌, ◌≤◌, length, true, false, not, ◌&&◌, cond, eqb, ltb, List, [], ◌∷◌, ◌++◌, get_or, Option, None, Some, inl, inr, refl, sym, ap, ◌∙◌, subst, arith, append_assoc, append-nil}
use Rattle.std.specs.Prelude.{nat_le}
use Rattle.std.specs.List.{range_with_len}
use Rattle.std.proofs.lemmas.Bool.{and_from, and_parts, cases_Bool, eq-eqb, le-leb, le-ltb, not_from_false}
use Rattle.std.proofs.lemmas.List.Folds.{list_any_at}
use Rattle.std.proofs.lemmas.List.FromFn.{get_or-range_with_len, length-range_with_len}
use Rattle.lock_journal.specs.Names.{holding_after, same_mark, GraphView, action_of, IsFetchOf, task_with, Holding, StateView, holding_of, is_owner}
use Rattle.lock_journal.specs.Names.{is_parked, mark_of, runs_unit, Change, Unlock, Give, Enter, LockId, WorkerId, Waiting, Running, MarkId, TaskOf}
use Rattle.lock_journal.specs.Names.{ActionOf, UnitOf, condition, earlier_passed, owned_from, parked_locks, works_on, rises, Block, after_all}
use Rattle.lock_journal.specs.Names.{claimed_after, locks_after}
use Rattle.resource_lock.proofs.lemmas.Units.{action_there}
use Rattle.blocking_section.specs.Sections.{is_ready}
use Rattle.blocking_section.proofs.After.{after_all-append}

abbrev lock_at : ℕ → LockId
lock_at n = record { 0 = n }

-- the locks that a worker owns rise
pub owned_rises : (low k : ℕ) (os : List (Option WorkerId)) (w : WorkerId) → low ≤ k → rises low (owned_from k os w) ≡ true
owned_rises low k [] w h = refl
owned_rises low k (o ∷ os) w h = elim (cases_Bool (is_owner o w)) [
  | inl own ↦ subst (λ b. rises low (cond b (lock_at k ∷ owned_from (k + 1) os w) (owned_from (k + 1) os w)) ≡ true) (sym own) (and_from (nat_le low k) (rises (k + 1) (owned_from (k + 1) os w)) (le-leb low k h) (owned_rises (k + 1) (k + 1) os w (omega arith)))
  | inr other ↦ subst (λ b. rises low (cond b (lock_at k ∷ owned_from (k + 1) os w) (owned_from (k + 1) os w)) ≡ true) (sym other) (owned_rises low (k + 1) os w (omega arith))
]

-- what parking locks leaves
after_parked : (h : Holding) (ls : List LockId) → after_all holding_after h (parked_locks ls) ≡ record h { parked = h.parked ++ ls }
after_parked h [] = ap (λ (ps : List LockId). record h { parked = ps }) (sym (append-nil h.parked))
after_parked h (l ∷ ls) = after_parked (record h { parked = h.parked ++ l ∷ [] }) ls ∙ ap (λ (ps : List LockId). record h { parked = ps }) (append_assoc h.parked (l ∷ []) ls)

abbrev pub down : List LockId → List Change
down ls = Give ∷ parked_locks ls ++ Enter ∷ []

pub down_holding : (h : Holding) (ls : List LockId) → after_all holding_after h (down ls) ≡ record { lease = false; parked = h.parked ++ ls; blocked = true }
down_holding h ls = after_all-append holding_after (record h { lease = false }) (parked_locks ls) (Enter ∷ []) ∙ ap (λ (x : Holding). record x { blocked = true }) (after_parked (record h { lease = false }) ls)

first_out : (l : LockId) (ls : List LockId) → locks_after (l ∷ ls) (Unlock l) ≡ ls
first_out l ls =
    let same : ltb l.0 l.0 ≡ false = le-ltb l.0 l.0 (omega arith) in
    λ i. cond (same i) (l ∷ locks_after ls (Unlock l)) (cond (same i) (l ∷ ls) ls)

parked_out : (ls : List LockId) → after_all locks_after ls (parked_locks ls) ≡ []
parked_out [] = refl
parked_out (l ∷ ls) = ap (λ (xs : List LockId). after_all locks_after xs (parked_locks ls)) (first_out l ls) ∙ parked_out ls

pub down_locks : (ls : List LockId) → after_all locks_after ls (down ls) ≡ []
down_locks ls = after_all-append locks_after ls (parked_locks ls) (Enter ∷ []) ∙ parked_out ls

parked_marks : (w : WorkerId) (ms : List MarkId) (ls : List LockId) → after_all (claimed_after w) ms (parked_locks ls) ≡ ms
parked_marks w ms [] = refl
parked_marks w ms (l ∷ ls) = parked_marks w ms ls

pub down_claimed : (w : WorkerId) (ms : List MarkId) (ls : List LockId) → after_all (claimed_after w) ms (down ls) ≡ ms
down_claimed w ms ls = after_all-append (claimed_after w) ms (parked_locks ls) (Enter ∷ []) ∙ parked_marks w ms ls

-- A worker with a lease that runs no unit meets the condition without a unit, and one with a claimed task for a fetch that is ready.
pub enters_without : (g : GraphView) (s : StateView) (w : WorkerId) → (holding_of s w).lease ≡ true → runs_unit s w ≡ false → condition g s w (Block None) ≡ true
enters_without g s w lease none = and_from (holding_of s w).lease (not (runs_unit s w)) lease (not_from_false (runs_unit s w) none)

pub enters_for : (g : GraphView) (s : StateView) (w : WorkerId) (a u : ℕ) → IsFetchOf g a u
    → (holding_of s w).lease ≡ true → mark_of s (TaskOf (task_with g a)) ≡ Running w → is_parked s w ≡ false → is_ready g s a u ≡ true → condition g s w (Block (Some u)) ≡ true
enters_for g s w a u fetch lease task not_parked ready =
    let first = and_parts (same_mark (mark_of s (ActionOf a)) Waiting && same_mark (mark_of s (UnitOf u)) Waiting) (earlier_passed g s a) ready in
    let waits = and_parts (same_mark (mark_of s (ActionOf a)) Waiting) (same_mark (mark_of s (UnitOf u)) Waiting) first.0 in
    let within : a < length g.actions = action_there g a u (inl fetch) in
    let runs : same_mark (mark_of s (TaskOf (task_with g a))) (Running w) ≡ true = ap (λ m. same_mark m (Running w)) task ∙ eq-eqb w.0 w.0 refl in
    let works : works_on s w (task_with g a) ≡ true = and_from _ _ (and_from _ _ runs lease) (not_from_false (is_parked s w) not_parked) in
    let one : ((action_of g a).fetch && eqb (action_of g a).first_unit u && works_on s w (task_with g a) && same_mark (mark_of s (ActionOf a)) Waiting && same_mark (mark_of s (UnitOf u)) Waiting && earlier_passed g s a) ≡ true =
    and_from _ _ (and_from _ _ (and_from _ _ (and_from _ _ (and_from _ _ fetch.0 (eq-eqb (action_of g a).first_unit u (sym fetch.1))) works) waits.0) waits.1) first.1 in
    let place : get_or (range_with_len 0 (length g.actions)) a 0 ≡ a = omega (arith, get_or-range_with_len 0 (length g.actions) a 0 within) in
    list_any_at (λ b. (action_of g b).fetch && eqb (action_of g b).first_unit u && works_on s w (task_with g b) && same_mark (mark_of s (ActionOf b)) Waiting && same_mark (mark_of s (UnitOf u)) Waiting && earlier_passed g s b)
    (range_with_len 0 (length g.actions)) a 0 (omega (arith, length-range_with_len 0 (length g.actions)))
    (ap (λ b. (action_of g b).fetch && eqb (action_of g b).first_unit u && works_on s w (task_with g b) && same_mark (mark_of s (ActionOf b)) Waiting && same_mark (mark_of s (UnitOf u)) Waiting && earlier_passed g s b) place ∙ one)
