-- What a finished entry leaves for certain: marks that have ended stay, and those that its kind moves have moved.
use Rattle.std.proofs.Common.{◌≡◌, ℕ, ◌<◌, true, List, [], ◌∷◌, length, refl, sym, ap, subst, inl, inr, arith, Some, cond}
use Rattle.lock_journal.specs.Names.{Change, Move, Unlock, Give, WorkerId, Mark, Waiting, Running, Skipped, MarkId, TaskOf, ActionOf, UnitOf}
use Rattle.lock_journal.specs.Names.{same_mark, make_all, can_all, GraphView, task_of, actions_of, units_of, IsActionOf, IsUnitOf, BelongsTo}
use Rattle.lock_journal.specs.Names.{StateView, holding_of, mark_of, IsMarkOf, Kind, Start, Skip, Submit, Claim, Close, Unblock, End, IsListOf}
use Rattle.lock_journal.specs.Names.{IsKindOf, mark_from, end_mark, moved_units, skipped_action, skipped_actions, skipped_waiting, taken_up, IsEnded}
use Rattle.lock_journal.proofs.Marks.{AllMoves-weaker, StaysOrMoves, stays_or_moves, moves_to, GoesTo, Names, Names-append_left, Names-append_right}
use Rattle.lock_journal.proofs.Moves.{MayMove, moves_not_ended, list_moves}
use Rattle.lock_journal.proofs.Ranges.{Has, has_unit, has_action}

-- a mark that has ended stays
pub record IsFinal (s s' : StateView) : Type 0 where
  pub kept : (m : MarkId) → IsEnded (mark_of s m) → mark_of s' m ≡ mark_of s m

pub final_by : (g : GraphView) (s : StateView) (w : WorkerId) (k : Kind) (cs : List Change) → IsListOf g s w k cs → can_all s w cs ≡ true → IsFinal s (make_all s w cs)
final_by g s w k cs l h = record { kept = λ m e. at m e (stays_or_moves (MayMove g s w k) cs s w (list_moves g s w k cs l) h m) }
  where
    at : (m : MarkId) → IsEnded (mark_of s m) → StaysOrMoves (MayMove g s w k) m (mark_of s m) (mark_of (make_all s w cs) m) → mark_of (make_all s w cs) m ≡ mark_of s m
    at m e (inl same) = same
    at m e (inr moved) = absurd (moves_not_ended g s w k m (mark_of s m) moved.first_to moved.first e)

units_named : (from to : Mark) (u : ℕ) (us : List ℕ) → Has u us → Names (UnitOf u) (moved_units us from to)
units_named from to u [] h = absurd h
units_named from to u (v ∷ us) (inl e) = inl (ap UnitOf e)
units_named from to u (v ∷ us) (inr h) = inr (units_named from to u us h)

action_named : (g : GraphView) (a u : ℕ) → IsUnitOf g a u → Names (UnitOf u) (skipped_action g a)
action_named g a u h = inr (units_named Waiting Skipped u (units_of g a) (has_unit g a u h))

actions_named : (g : GraphView) (a u : ℕ) (acts : List ℕ) → Has a acts → IsUnitOf g a u → Names (UnitOf u) (skipped_actions g acts)
actions_named g a u [] h i = absurd h
actions_named g a u (b ∷ acts) (inl e) i = Names-append_left (UnitOf u) (skipped_action g b) (skipped_actions g acts) (subst (λ n. Names (UnitOf u) (skipped_action g n)) e (action_named g a u i))
actions_named g a u (b ∷ acts) (inr h) i = Names-append_right (UnitOf u) (skipped_action g b) (skipped_actions g acts) (actions_named g a u acts h i)

waiting_named : (g : GraphView) (s : StateView) (a u : ℕ) (acts : List ℕ) → Has a acts → mark_of s (ActionOf a) ≡ Waiting → IsUnitOf g a u → Names (UnitOf u) (skipped_waiting g s acts)
waiting_named g s a u [] h e i = absurd h
waiting_named g s a u (b ∷ acts) (inl same) e i =
    let waits : mark_of s (ActionOf b) ≡ Waiting = subst (λ n. mark_of s (ActionOf n) ≡ Waiting) same e in
    let named : Names (UnitOf u) (skipped_action g b) = subst (λ n. Names (UnitOf u) (skipped_action g n)) same (action_named g a u i) in
    Names-append_left (UnitOf u) (cond (same_mark (mark_of s (ActionOf b)) Waiting) (skipped_action g b) []) (skipped_waiting g s acts)
    (subst (λ m. Names (UnitOf u) (cond (same_mark m Waiting) (skipped_action g b) [])) (sym waits) named)
waiting_named g s a u (b ∷ acts) (inr h) e i =
    Names-append_right (UnitOf u) (cond (same_mark (mark_of s (ActionOf b)) Waiting) (skipped_action g b) []) (skipped_waiting g s acts) (waiting_named g s a u acts h e i)

actions_named_too : (g : GraphView) (a : ℕ) (acts : List ℕ) → Has a acts → Names (ActionOf a) (skipped_actions g acts)
actions_named_too g a [] h = absurd h
actions_named_too g a (b ∷ acts) (inl e) = inl (ap ActionOf e)
actions_named_too g a (b ∷ acts) (inr h) = Names-append_right (ActionOf a) (skipped_action g b) (skipped_actions g acts) (actions_named_too g a acts h)

waiting_named_too : (g : GraphView) (s : StateView) (a : ℕ) (acts : List ℕ) → Has a acts → mark_of s (ActionOf a) ≡ Waiting → Names (ActionOf a) (skipped_waiting g s acts)
waiting_named_too g s a [] h e = absurd h
waiting_named_too g s a (b ∷ acts) (inl same) e =
    let waits : mark_of s (ActionOf b) ≡ Waiting = subst (λ n. mark_of s (ActionOf n) ≡ Waiting) same e in
    Names-append_left (ActionOf a) (cond (same_mark (mark_of s (ActionOf b)) Waiting) (skipped_action g b) []) (skipped_waiting g s acts)
    (subst (λ m. Names (ActionOf a) (cond (same_mark m Waiting) (skipped_action g b) [])) (sym waits) (inl (ap ActionOf same)))
waiting_named_too g s a (b ∷ acts) (inr h) e =
    Names-append_right (ActionOf a) (cond (same_mark (mark_of s (ActionOf b)) Waiting) (skipped_action g b) []) (skipped_waiting g s acts) (waiting_named_too g s a acts h e)

-- what is moved for certain
abbrev pub HasMoved : GraphView → StateView → WorkerId → Kind → StateView → Type 0
HasMoved g s w (Start t) s' = mark_of s' (TaskOf t) ≡ Running w
HasMoved g s w (Skip t) s' = (mark_of s' (TaskOf t) ≡ Skipped) × ((a u : ℕ) → IsActionOf g t a → IsUnitOf g a u → u < g.units → mark_of s' (UnitOf u) ≡ Skipped) × ((a : ℕ) → IsActionOf g t a → a < length g.actions → mark_of s' (ActionOf a) ≡ Skipped)
HasMoved g s w (Claim u) s' = mark_of s' (UnitOf u) ≡ Running w
HasMoved g s w (Close d) s' = mark_of s' (UnitOf d.unit) ≡ mark_from d.outcome
HasMoved g s w (Unblock (Some d)) s' = mark_of s' (UnitOf d.unit) ≡ mark_from d.outcome
HasMoved g s w (End t) s' = ((a u : ℕ) → IsActionOf g t a → mark_of s (ActionOf a) ≡ Waiting → IsUnitOf g a u → u < g.units → mark_of s' (UnitOf u) ≡ Skipped) × ((a : ℕ) → IsActionOf g t a → mark_of s (ActionOf a) ≡ Waiting → a < length g.actions → mark_of s' (ActionOf a) ≡ Skipped)
HasMoved g s w _ s' = Unit {0}

-- one mark
one_moves_to : (g : GraphView) (s : StateView) (w : WorkerId) (k : Kind) (cs : List Change) (m : MarkId) (r : Mark) → IsListOf g s w k cs → can_all s w cs ≡ true → ((from to : Mark) → MayMove g s w k m from to → to ≡ r) → IsMarkOf s m → Names m cs → mark_of (make_all s w cs) m ≡ r
one_moves_to g s w k cs m r l h f within n =
    moves_to m r cs s w
    (AllMoves-weaker (MayMove g s w k) (GoesTo m r) (λ n from to p e. f from to (subst (λ z. MayMove g s w k z from to) e p)) cs (list_moves g s w k cs l))
    h within (inr n)

pub has_moved : (g : GraphView) (s : StateView) (w : WorkerId) (k : Kind) (cs : List Change) → BelongsTo g s → IsKindOf g k → IsListOf g s w k cs → can_all s w cs ≡ true → HasMoved g s w k (make_all s w cs)
has_moved g s w (Start t) cs z i l h =
    one_moves_to g s w (Start t) cs (TaskOf t) (Running w) l h (λ from to p. p.2) (let e = z.tasks in omega arith)
    (subst (Names (TaskOf t)) (sym l) (inr (inr (inl refl))))
has_moved g s w (Skip t) cs z i l h = (
  one_moves_to g s w (Skip t) cs (TaskOf t) Skipped l h (λ from to p. p.2) (let e = z.tasks in omega arith) (subst (Names (TaskOf t)) (sym l) (inl refl)),
  (λ a u ia iu lt. one_moves_to g s w (Skip t) cs (UnitOf u) Skipped l h (λ from to p. p.2) (let e = z.units in omega arith) (subst (Names (UnitOf u)) (sym l) (inr (actions_named g a u (actions_of g t) (has_action g t a ia) iu)))),
  (λ a ia lt. one_moves_to g s w (Skip t) cs (ActionOf a) Skipped l h (λ from to p. p.2) (let e = z.actions in omega arith) (subst (Names (ActionOf a)) (sym l) (inr (actions_named_too g a (actions_of g t) (has_action g t a ia))))),
)
has_moved g s w (Claim u) cs z i l h =
    one_moves_to g s w (Claim u) cs (UnitOf u) (Running w) l h (λ from to p. p.2) (let e = z.units in omega arith)
    (subst (Names (UnitOf u)) (sym l) (inr (inl refl)))
has_moved g s w (Close d) cs z i l h =
    one_moves_to g s w (Close d) cs (UnitOf d.unit) (mark_from d.outcome) l h (λ from to p. p.2) (let e = z.units in omega arith)
    (subst (Names (UnitOf d.unit)) (sym l) (inl refl))
has_moved g s w (Unblock (Some d)) cs z i l h =
    one_moves_to g s w (Unblock (Some d)) cs (UnitOf d.unit) (mark_from d.outcome) l h (λ from to p. p.2) (let e = z.units in omega arith)
    (subst (Names (UnitOf d.unit)) (sym l) (Names-append_right (UnitOf d.unit) (taken_up s w) (Move (UnitOf d.unit) (Running w) (mark_from d.outcome) ∷ []) (inl refl)))
has_moved g s w (End t) cs z i l h = (
  (λ a u ia e iu lt. one_moves_to g s w (End t) cs (UnitOf u) Skipped l h (λ from to p. p.2) (let n = z.units in omega arith)
      (subst (Names (UnitOf u)) (sym l) (Names-append_left (UnitOf u) (skipped_waiting g s (actions_of g t)) (Move (TaskOf t) (Running w) (end_mark g s t) ∷ cond (holding_of s w).lease (Unlock (task_of g t).lock ∷ Give ∷ []) []) (waiting_named g s a u (actions_of g t) (has_action g t a ia) e iu)))),
  (λ a ia e lt. one_moves_to g s w (End t) cs (ActionOf a) Skipped l h (λ from to p. p.2) (let n = z.actions in omega arith)
      (subst (Names (ActionOf a)) (sym l) (Names-append_left (ActionOf a) (skipped_waiting g s (actions_of g t)) (Move (TaskOf t) (Running w) (end_mark g s t) ∷ cond (holding_of s w).lease (Unlock (task_of g t).lock ∷ Give ∷ []) []) (waiting_named_too g s a (actions_of g t) (has_action g t a ia) e)))),
)
has_moved g s w (Submit a) cs z i l h = tt
has_moved g s w _ cs z i l h = tt
