-- What the lists of entries park, and what they leave of what the worker has.
use Rattle.std.proofs.Common.{◌≡◌, ℕ, ◌+◌, Bool, true, false, cond, List, [], ◌∷◌, ◌++◌, map, reverse, refl, ap, ◌∙◌}
use Rattle.std.specs.Prelude.{nat_le}
use Rattle.std.specs.List.{AllByRecursion}
use Rattle.std.proofs.lemmas.Bool.{and_parts}
use Rattle.lock_journal.specs.Names.{holding_after, same_mark, without_last, GraphView, units_of, Holding, StateView, mark_of, Change, Lock, Unlock}
use Rattle.lock_journal.specs.Names.{Take, Give, Move, Enter, Leave, Retention, Retain, Release, ReleaseAndReacquire, LockId, WorkerId, Mark, Waiting}
use Rattle.lock_journal.specs.Names.{Queued, Running, Passed, Skipped, MarkId, ActionOf, moved_units, on_park, on_resume, parked_locks}
use Rattle.lock_journal.specs.Names.{skipped_action, skipped_actions, skipped_waiting, taken_again, after_all}
use Rattle.lock_transforms.specs.Table.{acquires}
use Rattle.lock_journal.proofs.Ranges.{each-append}
use Rattle.planned_work.specs.InPlace.{parked_under}
use Rattle.planned_work.proofs.LocksKept.{LeavesLocks, ParksNothing, after_all-append, none_parked, parked_stays}

-- lists that park nothing
pub units_park_nothing : (from to : Mark) (us : List ℕ) → AllByRecursion ParksNothing (moved_units us from to)
units_park_nothing from to [] = tt
units_park_nothing from to (u ∷ us) = (tt, units_park_nothing from to us)

pub units_leave_locks : (from to : Mark) (us : List ℕ) → AllByRecursion LeavesLocks (moved_units us from to)
units_leave_locks from to [] = tt
units_leave_locks from to (u ∷ us) = (tt, units_leave_locks from to us)

pub actions_park_nothing : (g : GraphView) (acts : List ℕ) → AllByRecursion ParksNothing (skipped_actions g acts)
actions_park_nothing g [] = tt
actions_park_nothing g (a ∷ acts) = each-append ParksNothing (skipped_action g a) (skipped_actions g acts) (tt, units_park_nothing Waiting Skipped (units_of g a)) (actions_park_nothing g acts)

pub waiting_parks_nothing : (g : GraphView) (s : StateView) (acts : List ℕ) → AllByRecursion ParksNothing (skipped_waiting g s acts)
waiting_parks_nothing g s [] = tt
waiting_parks_nothing g s (a ∷ acts) =
    each-append ParksNothing (cond (same_mark (mark_of s (ActionOf a)) Waiting) (skipped_action g a) []) (skipped_waiting g s acts)
    (elim (same_mark (mark_of s (ActionOf a)) Waiting) as (λ b. AllByRecursion ParksNothing (cond b (skipped_action g a) [])) [
      | true ↦ (tt, units_park_nothing Waiting Skipped (units_of g a))
      | false ↦ tt
    ])
    (waiting_parks_nothing g s acts)

pub ending_parks_nothing : (lease : Bool) (l : LockId) → AllByRecursion ParksNothing (cond lease (Unlock l ∷ Give ∷ []) [])
ending_parks_nothing true l = (tt, (tt, tt))
ending_parks_nothing false l = tt

pub unlocks_park_nothing : (ls : List LockId) → AllByRecursion ParksNothing (map Unlock ls)
unlocks_park_nothing [] = tt
unlocks_park_nothing (l ∷ ls) = (tt, unlocks_park_nothing ls)

pub giving_parks_nothing : (lease : Bool) → AllByRecursion ParksNothing (cond lease (Give ∷ []) [])
giving_parks_nothing true = (tt, tt)
giving_parks_nothing false = tt

pub acquiring_parks_nothing : (low : ℕ) (lease : Bool) (cs : List Change) → acquires low lease cs ≡ true → AllByRecursion ParksNothing cs
acquiring_parks_nothing low lease [] h = tt
acquiring_parks_nothing low lease (Lock l ∷ cs) h = (tt, acquiring_parks_nothing (l.0 + 1) lease cs (and_parts (nat_le low l.0) (acquires (l.0 + 1) lease cs) h).1)
acquiring_parks_nothing low lease (Take ∷ []) h = (tt, tt)
acquiring_parks_nothing low lease (Take ∷ (c ∷ cs)) h = absurd (cc)
acquiring_parks_nothing low lease (c ∷ cs) h = absurd (cc)

-- what a worker has that has set down, parked, or gone on
pub record HasParked (r : Retention) (l : LockId) (h : Holding) : Type 0 where
  pub blocked : h.blocked ≡ false
  pub parked : h.parked ≡ parked_under r l
  pub lease : h.lease ≡ false

pub parks_holding : (r : Retention) (l : LockId) (a : ℕ) (w : WorkerId) (h : Holding) → h.blocked ≡ false → h.parked ≡ [] → HasParked r l (after_all holding_after h (on_park r l ++ Move (ActionOf a) Queued (Running w) ∷ []))
parks_holding Retain l a w h free none = record { blocked = free; parked = none; lease = refl }
parks_holding Release l a w h free none = record { blocked = free; parked = ap (λ (ls : List LockId). ls ++ l ∷ []) none; lease = refl }
parks_holding ReleaseAndReacquire l a w h free none = record { blocked = free; parked = ap (λ (ls : List LockId). ls ++ l ∷ []) none; lease = refl }

pub resumes_parked : (r : Retention) (l : LockId) (a : ℕ) (w : WorkerId) (h : Holding) → h.parked ≡ parked_under r l → (after_all holding_after h (on_resume r l ++ Move (ActionOf a) (Running w) Passed ∷ [])).parked ≡ []
resumes_parked Retain l a w h has = has
resumes_parked Release l a w h has = ap without_last has
resumes_parked ReleaseAndReacquire l a w h has = ap without_last has

pub blocks_holding : (h : Holding) (ls : List LockId) → (after_all holding_after h (parked_locks ls ++ Enter ∷ [])).blocked ≡ true
blocks_holding h [] = refl
blocks_holding h (l ∷ ls) = blocks_holding (record h { parked = h.parked ++ l ∷ [] }) ls

pub unblocks_parked : (h : Holding) (cs : List Change) → AllByRecursion ParksNothing cs → (after_all holding_after h (Leave ∷ taken_again (reverse h.parked) ++ cs)).parked ≡ []
unblocks_parked h cs nothing =
    let left : Holding = record h { blocked = false } in
    ap (λ (x : Holding). x.parked) (after_all-append left (taken_again (reverse h.parked)) cs)
    ∙ (parked_stays (after_all holding_after left (taken_again (reverse h.parked))) cs nothing ∙ none_parked left)

-- what takes up and then moves a mark, as one list behind what was parked
pub taken_then : (cs : List Change) (c : Change) → (cs ++ Take ∷ []) ++ c ∷ [] ≡ cs ++ Take ∷ c ∷ []
taken_then [] c = refl
taken_then (d ∷ cs) c = ap (λ (ds : List Change). d ∷ ds) (taken_then cs c)

-- what moves of units leave, and what takes up leaves of the lease
pub units_leave : (from to : Mark) (us : List ℕ) (h : Holding) → after_all holding_after h (moved_units us from to) ≡ h
units_leave from to [] h = refl
units_leave from to (u ∷ us) h = units_leave from to us h

pub unblocks_lease : (h : Holding) (ks : List LockId) → (after_all holding_after h (Leave ∷ taken_again ks ++ Take ∷ [])).lease ≡ true
unblocks_lease h ks = ap (λ (x : Holding). x.lease) (after_all-append (record h { blocked = false }) (taken_again ks) (Take ∷ []))

pub unblocks_lease_then : (h : Holding) (ks : List LockId) (m : MarkId) (from to : Mark) → (after_all holding_after h (Leave ∷ taken_again ks ++ Take ∷ Move m from to ∷ [])).lease ≡ true
unblocks_lease_then h ks m from to = ap (λ (x : Holding). x.lease) (after_all-append (record h { blocked = false }) (taken_again ks) (Take ∷ Move m from to ∷ []))
