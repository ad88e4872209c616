-- Which marks an entry of each kind moves, where from and where to.
use Rattle.std.proofs.Common.{◌≡◌, ℕ, Bool, true, false, List, [], ◌∷◌, reverse, refl, sym, subst, Some, None, cond, map, ◌+◌}
use Rattle.std.specs.Prelude.{nat_le}
use Rattle.std.specs.List.{AllByRecursion}
use Rattle.std.proofs.lemmas.Bool.{and_parts}
use Rattle.lock_journal.specs.Names.{Change, Take, Enter, Lock, Unlock, Give, Retention, Retain, Release, ReleaseAndReacquire, LockId, WorkerId, Mark}
use Rattle.lock_journal.specs.Names.{Waiting, Queued, Running, Passed, Skipped, MarkId, TaskOf, ActionOf, UnitOf, same_mark, GraphView, task_of}
use Rattle.lock_journal.specs.Names.{action_of, actions_of, items_of, units_of, IsActionOf, IsItemOf, IsUnitOf, lock_with, StateView, holding_of}
use Rattle.lock_journal.specs.Names.{mark_of, Kind, Start, Skip, Submit, Park, Resume, Claim, Close, Block, Unblock, End, Acquire, HandBack, IsListOf}
use Rattle.lock_journal.specs.Names.{mark_from, end_mark, list_of, moved_units, skipped_action, skipped_actions, skipped_waiting, parked_locks}
use Rattle.lock_journal.specs.Names.{taken_again, taken_up, on_park, on_resume, owned, IsEnded}
use Rattle.resource_lock.proofs.lemmas.Undo.{same_mark_is}
use Rattle.lock_transforms.specs.Table.{set_down, acquires}
use Rattle.lock_journal.proofs.Marks.{AllMoves, AllMoves-append}
use Rattle.lock_journal.proofs.Ranges.{each_unit, each_item, each_action}

abbrev pub MayMove : GraphView → StateView → WorkerId → Kind → MarkId → Mark → Mark → Type 0
MayMove g s w (Start t) (TaskOf n) from to = (n ≡ t) × (from ≡ Waiting) × (to ≡ Running w)
MayMove g s w (Skip t) (TaskOf n) from to = (n ≡ t) × (from ≡ Waiting) × (to ≡ Skipped)
MayMove g s w (Skip t) (ActionOf a) from to = IsActionOf g t a × (from ≡ Waiting) × (to ≡ Skipped)
MayMove g s w (Skip t) (UnitOf u) from to = ((a : ℕ) × IsActionOf g t a × IsUnitOf g a u) × (from ≡ Waiting) × (to ≡ Skipped)
MayMove g s w (Submit a) (ActionOf n) from to = (n ≡ a) × (from ≡ Waiting) × (to ≡ Queued)
MayMove g s w (Submit a) (UnitOf u) from to = IsItemOf g a u × (from ≡ Waiting) × (to ≡ Queued)
MayMove g s w (Park a) (ActionOf n) from to = (n ≡ a) × (from ≡ Queued) × (to ≡ Running w)
MayMove g s w (Resume a) (ActionOf n) from to = (n ≡ a) × (from ≡ Running w) × (to ≡ Passed)
MayMove g s w (Claim u) (UnitOf n) from to = (n ≡ u) × (from ≡ Queued) × (to ≡ Running w)
MayMove g s w (Close d) (UnitOf n) from to = (n ≡ d.unit) × (from ≡ Running w) × (to ≡ mark_from d.outcome)
MayMove g s w (Block (Some u)) (UnitOf n) from to = (n ≡ u) × (from ≡ Waiting) × (to ≡ Running w)
MayMove g s w (Unblock (Some d)) (UnitOf n) from to = (n ≡ d.unit) × (from ≡ Running w) × (to ≡ mark_from d.outcome)
MayMove g s w (End t) (TaskOf n) from to = (n ≡ t) × (from ≡ Running w) × (to ≡ end_mark g s t)
MayMove g s w (End t) (ActionOf a) from to = (IsActionOf g t a × (mark_of s (ActionOf a) ≡ Waiting)) × (from ≡ Waiting) × (to ≡ Skipped)
MayMove g s w (End t) (UnitOf u) from to = ((a : ℕ) × IsActionOf g t a × (mark_of s (ActionOf a) ≡ Waiting) × IsUnitOf g a u) × (from ≡ Waiting) × (to ≡ Skipped)
MayMove _ _ _ _ _ _ _ = ⊥

-- no move goes from a mark that has ended
pub moves_not_ended : (g : GraphView) (s : StateView) (w : WorkerId) (k : Kind) (m : MarkId) (from to : Mark) → MayMove g s w k m from to → IsEnded from → ⊥
moves_not_ended g s w (Start t) (TaskOf n) from to p e = subst IsEnded p.1 e
moves_not_ended g s w (Skip t) (TaskOf n) from to p e = subst IsEnded p.1 e
moves_not_ended g s w (Skip t) (ActionOf n) from to p e = subst IsEnded p.1 e
moves_not_ended g s w (Skip t) (UnitOf n) from to p e = subst IsEnded p.1 e
moves_not_ended g s w (Submit t) (ActionOf n) from to p e = subst IsEnded p.1 e
moves_not_ended g s w (Submit t) (UnitOf n) from to p e = subst IsEnded p.1 e
moves_not_ended g s w (Park t) (ActionOf n) from to p e = subst IsEnded p.1 e
moves_not_ended g s w (Resume t) (ActionOf n) from to p e = subst IsEnded p.1 e
moves_not_ended g s w (Claim t) (UnitOf n) from to p e = subst IsEnded p.1 e
moves_not_ended g s w (Close d) (UnitOf n) from to p e = subst IsEnded p.1 e
moves_not_ended g s w (Block (Some t)) (UnitOf n) from to p e = subst IsEnded p.1 e
moves_not_ended g s w (Unblock (Some d)) (UnitOf n) from to p e = subst IsEnded p.1 e
moves_not_ended g s w (End t) (TaskOf n) from to p e = subst IsEnded p.1 e
moves_not_ended g s w (End t) (ActionOf n) from to p e = subst IsEnded p.1 e
moves_not_ended g s w (End t) (UnitOf n) from to p e = subst IsEnded p.1 e
moves_not_ended g s w _ _ from to p e = absurd p

units_move : (P : MarkId → Mark → Mark → Type 0) (from to : Mark) (us : List ℕ) → AllByRecursion (λ u. P (UnitOf u) from to) us → AllMoves P (moved_units us from to)
units_move P from to [] p = tt
units_move P from to (u ∷ us) p = (p.0, units_move P from to us p.1)

-- a whole action is skipped
abbrev pub SkipsAction : (MarkId → Mark → Mark → Type 0) → GraphView → ℕ → Type 0
SkipsAction P g a = P (ActionOf a) Waiting Skipped × ((u : ℕ) → IsUnitOf g a u → P (UnitOf u) Waiting Skipped)

action_moves : (P : MarkId → Mark → Mark → Type 0) (g : GraphView) (a : ℕ) → SkipsAction P g a → AllMoves P (skipped_action g a)
action_moves P g a p = (p.0, units_move P Waiting Skipped (units_of g a) (each_unit (λ u. P (UnitOf u) Waiting Skipped) g a p.1))

actions_move : (P : MarkId → Mark → Mark → Type 0) (g : GraphView) (acts : List ℕ) → AllByRecursion (SkipsAction P g) acts → AllMoves P (skipped_actions g acts)
actions_move P g [] p = tt
actions_move P g (a ∷ acts) p = AllMoves-append P (skipped_action g a) (skipped_actions g acts) (action_moves P g a p.0) (actions_move P g acts p.1)

where_moves : (P : MarkId → Mark → Mark → Type 0) (b : Bool) (cs : List Change) → (b ≡ true → AllMoves P cs) → AllMoves P (cond b cs [])
where_moves P true cs f = f refl
where_moves P false cs f = tt

pub waiting_move : (P : MarkId → Mark → Mark → Type 0) (g : GraphView) (s : StateView) (acts : List ℕ) → AllByRecursion (λ a. mark_of s (ActionOf a) ≡ Waiting → SkipsAction P g a) acts → AllMoves P (skipped_waiting g s acts)
waiting_move P g s [] p = tt
waiting_move P g s (a ∷ acts) p =
    AllMoves-append P (cond (same_mark (mark_of s (ActionOf a)) Waiting) (skipped_action g a) []) (skipped_waiting g s acts)
    (where_moves P (same_mark (mark_of s (ActionOf a)) Waiting) (skipped_action g a) (λ e. action_moves P g a (p.0 (same_mark_is (mark_of s (ActionOf a)) Waiting e))))
    (waiting_move P g s acts p.1)

-- lists without moves
parked_none : (P : MarkId → Mark → Mark → Type 0) (ls : List LockId) → AllMoves P (parked_locks ls)
parked_none P [] = tt
parked_none P (l ∷ ls) = (tt, (tt, parked_none P ls))

taken_again_none : (P : MarkId → Mark → Mark → Type 0) (ls : List LockId) → AllMoves P (taken_again ls)
taken_again_none P [] = tt
taken_again_none P (l ∷ ls) = (tt, (tt, taken_again_none P ls))

unlocks_none : (P : MarkId → Mark → Mark → Type 0) (ls : List LockId) → AllMoves P (map Unlock ls)
unlocks_none P [] = tt
unlocks_none P (l ∷ ls) = (tt, unlocks_none P ls)

acquires_none : (P : MarkId → Mark → Mark → Type 0) (low : ℕ) (lease : Bool) (cs : List Change) → acquires low lease cs ≡ true → AllMoves P cs
acquires_none P low lease [] h = tt
acquires_none P low lease (Lock l ∷ cs) h = (tt, acquires_none P (l.0 + 1) lease cs (and_parts (nat_le low l.0) (acquires (l.0 + 1) lease cs) h).1)
acquires_none P low lease (Take ∷ []) h = (tt, tt)
acquires_none P low lease (Take ∷ (c ∷ cs)) h = absurd (cc)
acquires_none P low lease (c ∷ cs) h = absurd (cc)

set_down_none : (P : MarkId → Mark → Mark → Type 0) (s : StateView) (w : WorkerId) → AllMoves P (set_down s w)
set_down_none P s w = (tt, AllMoves-append P (parked_locks (owned s w)) (Enter ∷ []) (parked_none P (owned s w)) (tt, tt))

taken_up_none : (P : MarkId → Mark → Mark → Type 0) (s : StateView) (w : WorkerId) → AllMoves P (taken_up s w)
taken_up_none P s w = (tt, AllMoves-append P (taken_again (reverse (holding_of s w).parked)) (Take ∷ []) (taken_again_none P (reverse (holding_of s w).parked)) (tt, tt))

on_park_none : (P : MarkId → Mark → Mark → Type 0) (r : Retention) (l : LockId) → AllMoves P (on_park r l)
on_park_none P Retain l = (tt, tt)
on_park_none P Release l = (tt, (tt, (tt, tt)))
on_park_none P ReleaseAndReacquire l = (tt, (tt, (tt, tt)))

on_resume_none : (P : MarkId → Mark → Mark → Type 0) (r : Retention) (l : LockId) → AllMoves P (on_resume r l)
on_resume_none P Retain l = (tt, tt)
on_resume_none P Release l = (tt, tt)
on_resume_none P ReleaseAndReacquire l = (tt, (tt, (tt, tt)))

ending_none : (P : MarkId → Mark → Mark → Type 0) (b : Bool) (l : LockId) → AllMoves P (cond b (Unlock l ∷ Give ∷ []) [])
ending_none P true l = (tt, (tt, tt))
ending_none P false l = tt

give_none : (P : MarkId → Mark → Mark → Type 0) (b : Bool) → AllMoves P (cond b (Give ∷ []) [])
give_none P true = (tt, tt)
give_none P false = tt

kind_moves : (g : GraphView) (s : StateView) (w : WorkerId) (k : Kind) → AllMoves (MayMove g s w k) (list_of g s w k)
kind_moves g s w (Start t) = (tt, (tt, ((refl, refl, refl), tt)))
kind_moves g s w (Skip t) = ((refl, refl, refl), actions_move _ g (actions_of g t) (each_action _ g t (λ a h. ((h, refl, refl), λ u i. ((a, h, i), refl, refl)))))
kind_moves g s w (Submit a) = ((refl, refl, refl), units_move _ Waiting Queued (items_of g a) (each_item _ g a (λ u i. (i, refl, refl))))
kind_moves g s w (Park a) = AllMoves-append _ (on_park (action_of g a).retention (lock_with g a)) _ (on_park_none _ (action_of g a).retention (lock_with g a)) ((refl, refl, refl), tt)
kind_moves g s w (Resume a) = AllMoves-append _ (on_resume (action_of g a).retention (lock_with g a)) _ (on_resume_none _ (action_of g a).retention (lock_with g a)) ((refl, refl, refl), tt)
kind_moves g s w (Claim u) = (tt, ((refl, refl, refl), tt))
kind_moves g s w (Close d) = ((refl, refl, refl), (tt, tt))
kind_moves g s w (Block (Some u)) = ((refl, refl, refl), set_down_none _ s w)
kind_moves g s w (Block None) = set_down_none _ s w
kind_moves g s w (Unblock (Some d)) = AllMoves-append _ (taken_up s w) _ (taken_up_none _ s w) ((refl, refl, refl), tt)
kind_moves g s w (Unblock None) = taken_up_none _ s w
kind_moves g s w (End t) =
    AllMoves-append _ (skipped_waiting g s (actions_of g t)) _
    (waiting_move _ g s (actions_of g t) (each_action _ g t (λ a h e. (((h, e), refl, refl), λ u i. ((a, h, e, i), refl, refl)))))
    ((refl, refl, refl), ending_none _ (holding_of s w).lease (task_of g t).lock)
kind_moves g s w Acquire = tt
kind_moves g s w HandBack = AllMoves-append _ (map Unlock (owned s w)) _ (unlocks_none _ (owned s w)) (give_none _ (holding_of s w).lease)

-- the changes of an entry move only marks that its kind may move
pub list_moves : (g : GraphView) (s : StateView) (w : WorkerId) (k : Kind) (cs : List Change) → IsListOf g s w k cs → AllMoves (MayMove g s w k) cs
list_moves g s w Acquire cs h = acquires_none (MayMove g s w Acquire) 0 (holding_of s w).lease cs h
list_moves g s w (Start t) cs h = subst (AllMoves (MayMove g s w (Start t))) (sym h) (kind_moves g s w (Start t))
list_moves g s w (Skip t) cs h = subst (AllMoves (MayMove g s w (Skip t))) (sym h) (kind_moves g s w (Skip t))
list_moves g s w (Submit t) cs h = subst (AllMoves (MayMove g s w (Submit t))) (sym h) (kind_moves g s w (Submit t))
list_moves g s w (Park t) cs h = subst (AllMoves (MayMove g s w (Park t))) (sym h) (kind_moves g s w (Park t))
list_moves g s w (Resume t) cs h = subst (AllMoves (MayMove g s w (Resume t))) (sym h) (kind_moves g s w (Resume t))
list_moves g s w (Claim t) cs h = subst (AllMoves (MayMove g s w (Claim t))) (sym h) (kind_moves g s w (Claim t))
list_moves g s w (Close d) cs h = subst (AllMoves (MayMove g s w (Close d))) (sym h) (kind_moves g s w (Close d))
list_moves g s w (Block (Some t)) cs h = subst (AllMoves (MayMove g s w (Block (Some t)))) (sym h) (kind_moves g s w (Block (Some t)))
list_moves g s w (Block None) cs h = subst (AllMoves (MayMove g s w (Block None))) (sym h) (kind_moves g s w (Block None))
list_moves g s w (Unblock (Some d)) cs h = subst (AllMoves (MayMove g s w (Unblock (Some d)))) (sym h) (kind_moves g s w (Unblock (Some d)))
list_moves g s w (Unblock None) cs h = subst (AllMoves (MayMove g s w (Unblock None))) (sym h) (kind_moves g s w (Unblock None))
list_moves g s w (End t) cs h = subst (AllMoves (MayMove g s w (End t))) (sym h) (kind_moves g s w (End t))
list_moves g s w HandBack cs h = subst (AllMoves (MayMove g s w HandBack)) (sym h) (kind_moves g s w HandBack)
