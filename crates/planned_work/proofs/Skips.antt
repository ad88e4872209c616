-- What waits can be skipped, and a task whose actions are through can end.
use Rattle.std.proofs.Common.{◌≡◌, ℕ, zero, suc, ◌+◌, Bool, true, false, cond, ◌&&◌, ◌||◌, List, [], ◌∷◌, ◌++◌, Option, inl, inr, refl, sym, ap, ◌∙◌, subst, arith}
use Rattle.std.specs.List.{AllByRecursion, list_all, range_with_len}
use Rattle.std.proofs.lemmas.Bool.{and_from, and_parts, eq-eqb}
use Rattle.std.proofs.lemmas.List.{get_or-set_other}
use Rattle.lock_journal.specs.Names.{can, can_all, make, make_all, same_mark, GraphView, action_of, task_of, IsActionOf, IsIn, IsUnitOf, actions_of}
use Rattle.lock_journal.specs.Names.{units_in, units_of, Holding, StateView, empty_holding, holding_of, is_owner, mark_of, owns, Change, Lock, Unlock}
use Rattle.lock_journal.specs.Names.{Take, Give, Move, ParkLock, Unpark, Enter, Leave, WorkerId, Mark, Waiting, Running, Passed, Failed, Skipped}
use Rattle.lock_journal.specs.Names.{MarkId, TaskOf, ActionOf, UnitOf, end_mark, has_passed, list_of, moved_units, never_ran, skipped_action}
use Rattle.lock_journal.specs.Names.{skipped_actions, skipped_waiting, units_passed, Skip, End}
use Rattle.std.specs.Prelude.{None, slice_index_or}
use Rattle.resource_lock.proofs.lemmas.Runs.{can_all-append}
use Rattle.resource_lock.proofs.lemmas.Undo.{same_mark_is}
use Rattle.lock_journal.proofs.Kept.{list_all-true}
use Rattle.lock_journal.proofs.Marks.{AllMoves, AllMoves-append, StaysOrMoves, stays_or_moves}
use Rattle.lock_journal.proofs.Ranges.{each-append, each_action, each_has, each_unit, has_action, has_unit, unit_of_range}
use Rattle.lock_journal.proofs.lemmas.Fitting.{RangesApart}
use Rattle.planned_work.proofs.Order.{AreInOrder}

-- a mark that no move names stays
abbrev Other : MarkId → MarkId → Mark → Mark → Type 0
Other m k from to = k ≡ m → ⊥

unmoved : (s : StateView) (w : WorkerId) (cs : List Change) (m : MarkId) → AllMoves (Other m) cs → can_all s w cs ≡ true → mark_of (make_all s w cs) m ≡ mark_of s m
unmoved s w cs m others possible = at (stays_or_moves (Other m) cs s w others possible m)
  where
    at : StaysOrMoves (Other m) m (mark_of s m) (mark_of (make_all s w cs) m) → mark_of (make_all s w cs) m ≡ mark_of s m
    at (inl same) = same
    at (inr move) = absurd (move.first refl)

-- one mark that waits, the units of an action, and the action with them
skips : (s : StateView) (w : WorkerId) (m : MarkId) → mark_of s m ≡ Waiting → can s w (Move m Waiting Skipped) ≡ true
skips s w m waits = λ i. same_mark (waits i) Waiting && true && true && true

skips_units : (s : StateView) (w : WorkerId) (first n : ℕ) → ((u : ℕ) → IsIn first n u → mark_of s (UnitOf u) ≡ Waiting) → can_all s w (moved_units (range_with_len first n) Waiting Skipped) ≡ true
skips_units s w first zero wait = refl
skips_units s w first (suc n) wait =
    let next : StateView = make s w (Move (UnitOf first) Waiting Skipped) in
    and_from (can s w (Move (UnitOf first) Waiting Skipped)) (can_all next w (moved_units (range_with_len (first + 1) n) Waiting Skipped)) (skips s w (UnitOf first) (wait first (omega arith, omega arith)))
    (skips_units next w (first + 1) n (λ u at. get_or-set_other s.units first u Skipped Waiting (λ e. absurd (omega (arith, e, at.0))) ∙ wait u (omega (arith, at.0), omega (arith, at.1))))

skips_action : (g : GraphView) (s : StateView) (w : WorkerId) (a : ℕ) → mark_of s (ActionOf a) ≡ Waiting → ((u : ℕ) → IsUnitOf g a u → mark_of s (UnitOf u) ≡ Waiting) → can_all s w (skipped_action g a) ≡ true
skips_action g s w a waits units =
    let next : StateView = make s w (Move (ActionOf a) Waiting Skipped) in
    and_from (can s w (Move (ActionOf a) Waiting Skipped)) (can_all next w (moved_units (units_of g a) Waiting Skipped)) (skips s w (ActionOf a) waits)
    (skips_units next w (action_of g a).first_unit (units_in (action_of g a)) (λ u at. units u (unit_of_range (action_of g a) u at)))

-- the marks of others
other_units : (m : MarkId) (us : List ℕ) → AllByRecursion (λ u. UnitOf u ≡ m → ⊥) us → AllMoves (Other m) (moved_units us Waiting Skipped)
other_units m [] each = tt
other_units m (u ∷ us) each = (each.0, other_units m us each.1)

other_action : (g : GraphView) (a b : ℕ) → (a ≡ b → ⊥) → AllMoves (Other (ActionOf b)) (skipped_action g a)
other_action g a b apart = ((λ e. apart (same e)), other_units (ActionOf b) (units_of g a) (each_unit (λ u. UnitOf u ≡ ActionOf b → ⊥) g a (λ u i e. absurd (cc))))
  where
    same : ActionOf a ≡ ActionOf b → a ≡ b
    same e = cc

other_unit : (g : GraphView) (a v : ℕ) → (IsUnitOf g a v → ⊥) → AllMoves (Other (UnitOf v)) (skipped_action g a)
other_unit g a v apart = ((λ e. absurd (cc)), other_units (UnitOf v) (units_of g a) (each_unit (λ u. UnitOf u ≡ UnitOf v → ⊥) g a (λ u i e. apart (subst (IsUnitOf g a) (same u e) i))))
  where
    same : (u : ℕ) → UnitOf u ≡ UnitOf v → u ≡ v
    same u e = cc

-- what waits with its units
abbrev Waits : GraphView → StateView → ℕ → Type 0
Waits g s a = (mark_of s (ActionOf a) ≡ Waiting) × ((u : ℕ) → IsUnitOf g a u → mark_of s (UnitOf u) ≡ Waiting)

-- the actions that wait in a state, skipped in one where they still do
skips_waiting : (g : GraphView) (s t : StateView) (w : WorkerId) (first n : ℕ) → RangesApart g → ((a : ℕ) → IsIn first n a → mark_of s (ActionOf a) ≡ Waiting → Waits g t a)
    → can_all t w (skipped_waiting g s (range_with_len first n)) ≡ true
skips_waiting g s t w first zero apart waits = refl
skips_waiting g s t w first (suc n) apart waits = at (same_mark (mark_of s (ActionOf first)) Waiting) refl (λ x rest. skips_waiting g s x w (first + 1) n apart rest)
  where
    at : (b : Bool) → same_mark (mark_of s (ActionOf first)) Waiting ≡ b
        → ((x : StateView) → ((a : ℕ) → IsIn (first + 1) n a → mark_of s (ActionOf a) ≡ Waiting → Waits g x a) → can_all x w (skipped_waiting g s (range_with_len (first + 1) n)) ≡ true)
        → can_all t w (cond b (skipped_action g first) [] ++ skipped_waiting g s (range_with_len (first + 1) n)) ≡ true
    at false is rest = rest t (λ a there wait. waits a (omega (arith, there.0), omega (arith, there.1)) wait)
    at true is rest =
        let here : Waits g t first = waits first (omega arith, omega arith) (same_mark_is (mark_of s (ActionOf first)) Waiting is) in
        let can_here = skips_action g t w first here.0 here.1 in
        can_all-append t w (skipped_action g first) (skipped_waiting g s (range_with_len (first + 1) n))
        ∙ and_from (can_all t w (skipped_action g first)) (can_all (make_all t w (skipped_action g first)) w (skipped_waiting g s (range_with_len (first + 1) n))) can_here
        (rest (make_all t w (skipped_action g first)) (λ a there wait.
        let later : first ≡ a → ⊥ = λ e. absurd (omega (arith, e, there.0)) in
        let still : Waits g t a = waits a (omega (arith, there.0), omega (arith, there.1)) wait in (
          unmoved t w (skipped_action g first) (ActionOf a) (other_action g first a later) can_here ∙ still.0,
          λ u iu. unmoved t w (skipped_action g first) (UnitOf u) (other_unit g first u (λ mine. later (apart.one_action first a u mine iu))) can_here ∙ still.1 u iu,
        )))

all_waiting : (g : GraphView) (s : StateView) (acts : List ℕ) → AllByRecursion (λ a. mark_of s (ActionOf a) ≡ Waiting) acts → skipped_waiting g s acts ≡ skipped_actions g acts
all_waiting g s [] each = refl
all_waiting g s (a ∷ acts) each = λ i. cond (same_mark (each.0 i) Waiting) (skipped_action g a) [] ++ all_waiting g s acts each.1 i

-- a task that waits can be skipped
pub can_skip : (g : GraphView) (s : StateView) (w : WorkerId) (t : ℕ) → RangesApart g → AreInOrder g s → mark_of s (TaskOf t) ≡ Waiting → can_all s w (list_of g s w (Skip t)) ≡ true
can_skip g s w t apart order waits =
    let next : StateView = make s w (Move (TaskOf t) Waiting Skipped) in
    and_from (can s w (Move (TaskOf t) Waiting Skipped)) (can_all next w (skipped_actions g (actions_of g t))) (skips s w (TaskOf t) waits)
    (subst (λ (cs : List Change). can_all next w cs ≡ true) (all_waiting g s (actions_of g t) (each_action (λ a. mark_of s (ActionOf a) ≡ Waiting) g t (λ a ia. order.actions t a ia waits)))
    (skips_waiting g s next w (task_of g t).first_action (task_of g t).actions apart (λ a ia wait. (wait, λ u iu. order.units t a u ia iu waits))))

-- moves leave owners and what workers have
abbrev IsMove : Change → Type 0
IsMove (Move m from to) = Unit {0}
IsMove _ = ⊥

moves_leave : (s : StateView) (w : WorkerId) (cs : List Change) → AllByRecursion IsMove cs → ((make_all s w cs).owners ≡ s.owners) × ((make_all s w cs).holdings ≡ s.holdings)
moves_leave s w [] each = (refl, refl)
moves_leave s w (Move (TaskOf t) from to ∷ cs) each = moves_leave (make s w (Move (TaskOf t) from to)) w cs each.1
moves_leave s w (Move (ActionOf a) from to ∷ cs) each = moves_leave (make s w (Move (ActionOf a) from to)) w cs each.1
moves_leave s w (Move (UnitOf u) from to ∷ cs) each = moves_leave (make s w (Move (UnitOf u) from to)) w cs each.1
moves_leave s w (Lock l ∷ cs) each = absurd each.0
moves_leave s w (Unlock l ∷ cs) each = absurd each.0
moves_leave s w (Take ∷ cs) each = absurd each.0
moves_leave s w (Give ∷ cs) each = absurd each.0
moves_leave s w (ParkLock l ∷ cs) each = absurd each.0
moves_leave s w (Unpark l ∷ cs) each = absurd each.0
moves_leave s w (Enter ∷ cs) each = absurd each.0
moves_leave s w (Leave ∷ cs) each = absurd each.0

unit_moves : (us : List ℕ) → AllByRecursion IsMove (moved_units us Waiting Skipped)
unit_moves [] = tt
unit_moves (u ∷ us) = (tt, unit_moves us)

waiting_moves : (g : GraphView) (s : StateView) (acts : List ℕ) → AllByRecursion IsMove (skipped_waiting g s acts)
waiting_moves g s [] = tt
waiting_moves g s (a ∷ acts) =
    each-append IsMove (cond (same_mark (mark_of s (ActionOf a)) Waiting) (skipped_action g a) []) (skipped_waiting g s acts)
    (elim (same_mark (mark_of s (ActionOf a)) Waiting) as (λ b. AllByRecursion IsMove (cond b (skipped_action g a) [])) [
      | true ↦ (tt, unit_moves (units_of g a))
      | false ↦ tt
    ])
    (waiting_moves g s acts)

-- no task is among what is skipped
other_task : (g : GraphView) (s : StateView) (t : ℕ) (acts : List ℕ) → AllMoves (Other (TaskOf t)) (skipped_waiting g s acts)
other_task g s t [] = tt
other_task g s t (a ∷ acts) =
    AllMoves-append (Other (TaskOf t)) (cond (same_mark (mark_of s (ActionOf a)) Waiting) (skipped_action g a) []) (skipped_waiting g s acts)
    (elim (same_mark (mark_of s (ActionOf a)) Waiting) as (λ b. AllMoves (Other (TaskOf t)) (cond b (skipped_action g a) [])) [
      | true ↦ ((λ e. absurd (cc)), other_units (TaskOf t) (units_of g a) (each_unit (λ u. UnitOf u ≡ TaskOf t → ⊥) g a (λ u i e. absurd (cc))))
      | false ↦ tt
    ])
    (other_task g s t acts)

-- the state once the actions that wait are skipped
abbrev skipped : GraphView → StateView → WorkerId → ℕ → StateView
skipped g s w t = make_all s w (skipped_waiting g s (actions_of g t))

-- a task that its worker runs can end where each action is through
module _ (g : GraphView) (s : StateView) (w : WorkerId) (t : ℕ) (apart : RangesApart g) (runs : mark_of s (TaskOf t) ≡ Running w)
    (through : list_all (λ a. has_passed (mark_of s (ActionOf a)) || never_ran g s a) (actions_of g t) ≡ true) where
  never : (a : ℕ) → (has_passed (mark_of s (ActionOf a)) || never_ran g s a) ≡ true → mark_of s (ActionOf a) ≡ Waiting → never_ran g s a ≡ true
  never a h waits = sym (ap (λ m. has_passed m || never_ran g s a) waits) ∙ h

  waits_with : (a : ℕ) → IsActionOf g t a → mark_of s (ActionOf a) ≡ Waiting → Waits g s a
  waits_with a ia waits =
      let one = each_has (λ b. (has_passed (mark_of s (ActionOf b)) || never_ran g s b) ≡ true) a (actions_of g t) (list_all-true (λ b. has_passed (mark_of s (ActionOf b)) || never_ran g s b) (actions_of g t) through) (has_action g t a ia) in
      let units = list_all-true (λ u. same_mark (mark_of s (UnitOf u)) Waiting) (units_of g a) (and_parts _ _ (and_parts _ _ (never a one waits)).0).1 in
      (waits, λ u iu. same_mark_is (mark_of s (UnitOf u)) Waiting (each_has (λ v. same_mark (mark_of s (UnitOf v)) Waiting ≡ true) u (units_of g a) units (has_unit g a u iu)))

  can_skip_waiting : can_all s w (skipped_waiting g s (actions_of g t)) ≡ true
  can_skip_waiting = skips_waiting g s s w (task_of g t).first_action (task_of g t).actions apart waits_with

  owners_stay : (skipped g s w t).owners ≡ s.owners
  owners_stay = (moves_leave s w (skipped_waiting g s (actions_of g t)) (waiting_moves g s (actions_of g t))).0

  holdings_stay : (skipped g s w t).holdings ≡ s.holdings
  holdings_stay = (moves_leave s w (skipped_waiting g s (actions_of g t)) (waiting_moves g s (actions_of g t))).1

  still_runs : same_mark (mark_of (skipped g s w t) (TaskOf t)) (Running w) ≡ true
  still_runs = ap (λ m. same_mark m (Running w)) (unmoved s w (skipped_waiting g s (actions_of g t)) (TaskOf t) (other_task g s t (actions_of g t)) can_skip_waiting ∙ runs) ∙ eq-eqb w.0 w.0 refl

  -- the move of the task, and what it gives back
  ends_as : (b : Bool) → can (skipped g s w t) w (Move (TaskOf t) (Running w) (cond b Passed Failed)) ≡ true
  ends_as true = λ i. still_runs i && true && eq-eqb w.0 w.0 refl i && true
  ends_as false = λ i. still_runs i && true && eq-eqb w.0 w.0 refl i && true

  gives_back : ((holding_of s w).lease ≡ true → owns s w (task_of g t).lock ≡ true) → (b : Bool) → (holding_of s w).lease ≡ b
      → can_all (make (skipped g s w t) w (Move (TaskOf t) (Running w) (end_mark g s t))) w (cond b (Unlock (task_of g t).lock ∷ Give ∷ []) []) ≡ true
  gives_back own false is = refl
  gives_back own true is =
      and_from (owns (skipped g s w t) w (task_of g t).lock) _ (ap (λ (os : List (Option WorkerId)). is_owner (slice_index_or os (task_of g t).lock.0 None) w) owners_stay ∙ own is)
      (and_from (holding_of (skipped g s w t) w).lease true (ap (λ (hs : List Holding). (slice_index_or hs w.0 empty_holding).lease) holdings_stay ∙ is) refl)

  pub can_end : ((holding_of s w).lease ≡ true → owns s w (task_of g t).lock ≡ true) → can_all s w (list_of g s w (End t)) ≡ true
  can_end own =
      can_all-append s w (skipped_waiting g s (actions_of g t)) (Move (TaskOf t) (Running w) (end_mark g s t) ∷ cond (holding_of s w).lease (Unlock (task_of g t).lock ∷ Give ∷ []) [])
      ∙ and_from (can_all s w (skipped_waiting g s (actions_of g t))) (can_all (skipped g s w t) w (Move (TaskOf t) (Running w) (end_mark g s t) ∷ cond (holding_of s w).lease (Unlock (task_of g t).lock ∷ Give ∷ []) [])) can_skip_waiting
      (and_from (can (skipped g s w t) w (Move (TaskOf t) (Running w) (end_mark g s t))) (can_all (make (skipped g s w t) w (Move (TaskOf t) (Running w) (end_mark g s t))) w (cond (holding_of s w).lease (Unlock (task_of g t).lock ∷ Give ∷ []) [])) (ends_as (list_all (units_passed g s) (actions_of g t)))
      (gives_back own (holding_of s w).lease refl))
