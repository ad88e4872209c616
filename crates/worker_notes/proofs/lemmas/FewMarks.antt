-- In a lawful history a worker runs at most a task, an action and a unit.
use Rattle.std.proofs.Common.{◌≡◌, ℕ, suc, ◌+◌, ◌<◌, ◌≤◌, ◌⊎◌, Bool, true, false, not, cond, ◌&&◌, ◌||◌, ◌==◌, List, [], ◌∷◌, ◌++◌, length, length-append, map, get_or, Option, Some, None, inl, inr, refl, sym, ap, ◌∙◌, subst, arith}
use Rattle.std.specs.Prelude.{IfSome, replicate}
use Rattle.std.specs.List.{list_any, range_with_len}
use Rattle.std.proofs.lemmas.Bool.{and_parts, cases_Bool, cases_eq, cases_lt, eq-eqb, false≢true, not-true, or_cases, or_parts}
use Rattle.std.proofs.lemmas.List.{get_or_past, length-map}
use Rattle.std.proofs.lemmas.List.Folds.{list_any_at}
use Rattle.item_actions.specs.declared.outcomes.Outcome.{Outcome}
use Rattle.item_actions.specs.declared.outcomes.Outcome.TheVariants as outcomes
use Rattle.lock_journal.specs.Names.{make_all, holding_after, same_mark, GraphView, action_of, opening_of, task_with, BelongsTo, Holding, IsWorkerOf}
use Rattle.lock_journal.specs.Names.{StateView, holding_of, is_idle, is_parked, mark_of, runs_any, runs_by, runs_task, runs_unit, Change, Enter}
use Rattle.lock_journal.specs.Names.{LockId, WorkerId, Mark, Waiting, Running, Passed, Failed, MarkId, TaskOf, ActionOf, UnitOf, Allowed, Finishes}
use Rattle.lock_journal.specs.Names.{IsKindOf, Lawful, lawful_from, Entry, changed, effect, replay, replay_from, condition, earlier_passed, mark_from}
use Rattle.lock_journal.specs.Names.{owned, parked_locks, works_on, Kind, Start, Skip, Submit, Park, Resume, Claim, Close, Block, Unblock, End}
use Rattle.lock_journal.specs.Names.{Acquire, HandBack, SameFor, action_at, claimed, places_from, task_at, unit_at, after_all}
use Rattle.resource_lock.proofs.lemmas.Runs.{belongs_along, belongs_opening, same_shape-make_all, worker_from}
use Rattle.resource_lock.proofs.lemmas.Undo.{same_mark_is, same_worker}
use Rattle.lock_journal.proofs.Finished.{HasMoved, has_moved}
use Rattle.lock_journal.proofs.Marks.{StaysOrMoves, stays_or_moves}
use Rattle.lock_journal.proofs.Moves.{MayMove, list_moves}
use Rattle.lock_journal.proofs.Runs.{all_wait}
use Rattle.lock_journal.proofs.lemmas.Others.{others_after, running_of}
use Rattle.lock_journal.proofs.lemmas.OwnChanges.{own_holding_all}
use Rattle.worker_notes.specs.FewMarks.{RunsFew}

-- Beside it: where the worker has a lease and runs a task and a unit, it waits for an action.
pub record Keeps (s : StateView) (w : WorkerId) : Type 0 where
  pub few : RunsFew s w
  pub apart : (holding_of s w).lease ≡ true → (t u : ℕ) → mark_of s (TaskOf t) ≡ Running w → mark_of s (UnitOf u) ≡ Running w → (a : ℕ) × (mark_of s (ActionOf a) ≡ Running w)

-- whether one of a list runs, by places
runs_at : (w : WorkerId) (marks : List Mark) (i : ℕ) → get_or marks i Waiting ≡ Running w → list_any (runs_by w) marks ≡ true
runs_at w marks i is = elim (cases_lt i (length marks)) [
  | inl within ↦ list_any_at (runs_by w) marks i Waiting within (ap (runs_by w) is ∙ eq-eqb w.0 w.0 refl)
  | inr past ↦ let e : get_or marks i Waiting ≡ Waiting = get_or_past marks i Waiting past in absurd (cc)
]

none_runs : (w : WorkerId) (marks : List Mark) (i : ℕ) → list_any (runs_by w) marks ≡ false → get_or marks i Waiting ≡ Running w → ⊥
none_runs w marks i none is = false≢true (sym none ∙ runs_at w marks i is)

some_runs : (w : WorkerId) (marks : List Mark) → list_any (runs_by w) marks ≡ true → (i : ℕ) × (get_or marks i Waiting ≡ Running w)
some_runs w [] h = absurd (false≢true h)
some_runs w (m ∷ marks) h = at (or_cases (runs_by w m) (list_any (runs_by w) marks) h) (some_runs w marks)
  where
    at : (runs_by w m ≡ true) ⊎ (list_any (runs_by w) marks ≡ true) → (list_any (runs_by w) marks ≡ true → (i : ℕ) × (get_or marks i Waiting ≡ Running w)) → (i : ℕ) × (get_or (m ∷ marks) i Waiting ≡ Running w)
    at (inl here) rest = (0, running_of w m here)
    at (inr later) rest = let found = rest later in (suc found.0, found.1)

found_one : (test : ℕ → Bool) (xs : List ℕ) → list_any test xs ≡ true → (x : ℕ) × (test x ≡ true)
found_one test [] h = absurd (false≢true h)
found_one test (x ∷ xs) h = at (or_cases (test x) (list_any test xs) h) (found_one test xs)
  where
    at : (test x ≡ true) ⊎ (list_any test xs ≡ true) → (list_any test xs ≡ true → (y : ℕ) × (test y ≡ true)) → (y : ℕ) × (test y ≡ true)
    at (inl here) rest = (x, here)
    at (inr later) rest = rest later

-- what conditions say of the worker
record RunsNothing (s : StateView) (w : WorkerId) : Type 0 where
  task : runs_task s w ≡ false
  action : is_parked s w ≡ false
  unit : runs_unit s w ≡ false

nothing_runs : (s : StateView) (w : WorkerId) → not (runs_any s w) ≡ true → RunsNothing s w
nothing_runs s w h =
    let all = or_parts (runs_task s w || is_parked s w) (runs_unit s w) (not-true (runs_any s w) h) in
    let others = or_parts (runs_task s w) (is_parked s w) all.0 in record { task = others.0; action = others.1; unit = all.1 }

idle_runs : (s : StateView) (w : WorkerId) → is_idle s w ≡ true → RunsNothing s w
idle_runs s w h = nothing_runs s w (and_parts _ _ h).1

-- an entry of the worker's that finished between two states
record Step (g : GraphView) (s : StateView) (w : WorkerId) (k : Kind) (s' : StateView) : Type 0 where
  before : Keeps s w
  holds : condition g s w k ≡ true
  moves : (m : MarkId) → StaysOrMoves (MayMove g s w k) m (mark_of s m) (mark_of s' m)
  ended : HasMoved g s w k s'
  blocked : (u : ℕ) → k ≡ Block (Some u) → (holding_of s' w).lease ≡ false

-- who works on a task runs no unit
works_without_unit : (s : StateView) (w : WorkerId) (t u : ℕ) → Keeps s w → works_on s w t ≡ true → mark_of s (UnitOf u) ≡ Running w → ⊥
works_without_unit s w t u before h runs =
    let p = and_parts _ _ h in
    let q = and_parts _ _ p.0 in
    let found = before.apart q.1 t u (same_mark_is (mark_of s (TaskOf t)) (Running w) q.0) runs in
    none_runs w s.actions found.0 (not-true (is_parked s w) p.1) found.1

blocks_at_work : (g : GraphView) (s : StateView) (w : WorkerId) (u : ℕ) → condition g s w (Block (Some u)) ≡ true → (a : ℕ) × (works_on s w (task_with g a) ≡ true)
blocks_at_work g s w u h =
    let found = found_one (λ a. (action_of g a).fetch && (action_of g a).first_unit == u && works_on s w (task_with g a) && same_mark (mark_of s (ActionOf a)) Waiting && same_mark (mark_of s (UnitOf u)) Waiting && earlier_passed g s a) (range_with_len 0 (length g.actions)) h in
    (found.0, (and_parts _ _ (and_parts _ _ (and_parts _ _ (and_parts _ _ found.1).0).0).0).1)

-- the mark that an entry of the kind makes run
abbrev Begins : Kind → MarkId → Type 0
Begins (Start t) (TaskOf n) = n ≡ t
Begins (Park a) (ActionOf n) = n ≡ a
Begins (Claim u) (UnitOf n) = n ≡ u
Begins (Block (Some u)) (UnitOf n) = n ≡ u
Begins _ _ = ⊥

not_running : (o : Outcome) (w : WorkerId) → mark_from o ≡ Running w → ⊥
not_running (outcomes.Number n) w h = absurd (cc)
not_running (outcomes.Digest d) w h = absurd (cc)
not_running outcomes.NotThere w h = absurd (cc)
not_running _ w h = absurd (cc)

not_both : (b : Bool) (w : WorkerId) → cond b Passed Failed ≡ Running w → ⊥
not_both true w h = absurd (cc)
not_both false w h = absurd (cc)

begun : (g : GraphView) (s : StateView) (w : WorkerId) (k : Kind) (m : MarkId) (from to : Mark) → MayMove g s w k m from to → to ≡ Running w → Begins k m
begun g s w (Start t) (TaskOf n) from to p is = p.0
begun g s w (Skip t) (TaskOf n) from to p is = absurd (cc (p.2, is))
begun g s w (Skip t) (ActionOf n) from to p is = absurd (cc (p.2, is))
begun g s w (Skip t) (UnitOf n) from to p is = absurd (cc (p.2, is))
begun g s w (Submit a) (ActionOf n) from to p is = absurd (cc (p.2, is))
begun g s w (Submit a) (UnitOf n) from to p is = absurd (cc (p.2, is))
begun g s w (Park a) (ActionOf n) from to p is = p.0
begun g s w (Resume a) (ActionOf n) from to p is = absurd (cc (p.2, is))
begun g s w (Claim u) (UnitOf n) from to p is = p.0
begun g s w (Close d) (UnitOf n) from to p is = absurd (not_running d.outcome w (sym p.2 ∙ is))
begun g s w (Block (Some u)) (UnitOf n) from to p is = p.0
begun g s w (Unblock (Some d)) (UnitOf n) from to p is = absurd (not_running d.outcome w (sym p.2 ∙ is))
begun g s w (End t) (TaskOf n) from to p is = absurd (not_both _ w (sym p.2 ∙ is))
begun g s w (End t) (ActionOf n) from to p is = absurd (cc (p.2, is))
begun g s w (End t) (UnitOf n) from to p is = absurd (cc (p.2, is))
begun g s w _ _ from to p is = absurd p

-- what runs afterwards ran before, or the entry made it run
ran_before : (g : GraphView) (s : StateView) (w : WorkerId) (k : Kind) (s' : StateView) → Step g s w k s' → (m : MarkId) → mark_of s' m ≡ Running w → (mark_of s m ≡ Running w) ⊎ Begins k m
ran_before g s w k s' step m is = at (step.moves m)
  where
    at : StaysOrMoves (MayMove g s w k) m (mark_of s m) (mark_of s' m) → (mark_of s m ≡ Running w) ⊎ Begins k m
    at (inl same) = inl (sym same ∙ is)
    at (inr moved) = inr (begun g s w k m moved.last_from (mark_of s' m) moved.last is)

-- nothing of its sort ran before
task_alone : (g : GraphView) (s : StateView) (w : WorkerId) (k : Kind) (t n : ℕ) → condition g s w k ≡ true → Begins k (TaskOf t) → mark_of s (TaskOf n) ≡ Running w → ⊥
task_alone g s w (Start x) t n h begins runs = none_runs w s.tasks n (idle_runs s w (and_parts _ _ h).1).task runs
task_alone g s w (Block (Some x)) t n h begins runs = absurd begins
task_alone g s w _ t n h begins runs = absurd begins

action_alone : (g : GraphView) (s : StateView) (w : WorkerId) (k : Kind) (a n : ℕ) → condition g s w k ≡ true → Begins k (ActionOf a) → mark_of s (ActionOf n) ≡ Running w → ⊥
action_alone g s w (Park x) a n h begins runs = none_runs w s.actions n (not-true (is_parked s w) (and_parts _ _ (and_parts _ _ h).0).1) runs
action_alone g s w (Block (Some x)) a n h begins runs = absurd begins
action_alone g s w _ a n h begins runs = absurd begins

unit_alone : (g : GraphView) (s : StateView) (w : WorkerId) (k : Kind) (u n : ℕ) → Keeps s w → condition g s w k ≡ true → Begins k (UnitOf u) → mark_of s (UnitOf n) ≡ Running w → ⊥
unit_alone g s w (Claim x) u n before h begins runs = none_runs w s.units n (not-true (runs_unit s w) (and_parts _ _ (and_parts _ _ (and_parts _ _ (and_parts _ _ h).0).0).0).1) runs
unit_alone g s w (Block (Some x)) u n before h begins runs = let at = blocks_at_work g s w x h in works_without_unit s w (task_with g at.0) n before at.1 runs
unit_alone g s w _ u n before h begins runs = absurd begins

same_task : (k : Kind) (t n : ℕ) → Begins k (TaskOf t) → Begins k (TaskOf n) → t ≡ n
same_task (Start x) t n first second = first ∙ sym second
same_task (Block (Some x)) t n first second = absurd first
same_task _ t n first second = absurd first

same_action : (k : Kind) (a n : ℕ) → Begins k (ActionOf a) → Begins k (ActionOf n) → a ≡ n
same_action (Park x) a n first second = first ∙ sym second
same_action (Block (Some x)) a n first second = absurd first
same_action _ a n first second = absurd first

same_unit : (k : Kind) (u n : ℕ) → Begins k (UnitOf u) → Begins k (UnitOf n) → u ≡ n
same_unit (Claim x) u n first second = first ∙ sym second
same_unit (Block (Some x)) u n first second = first ∙ sym second
same_unit _ u n first second = absurd first

one_of : (P Q : ℕ → Type 0) (m n : ℕ) → ((i j : ℕ) → P i → P j → i ≡ j) → ((i j : ℕ) → Q i → P j → ⊥) → ((i j : ℕ) → Q i → Q j → i ≡ j) → P m ⊎ Q m → P n ⊎ Q n → m ≡ n
one_of P Q m n before apart begins (inl p) (inl q) = before m n p q
one_of P Q m n before apart begins (inl p) (inr q) = absurd (apart n m q p)
one_of P Q m n before apart begins (inr p) (inl q) = absurd (apart m n p q)
one_of P Q m n before apart begins (inr p) (inr q) = begins m n p q

few_after : (g : GraphView) (s : StateView) (w : WorkerId) (k : Kind) (s' : StateView) → Step g s w k s' → RunsFew s' w
few_after g s w k s' step = record {
  task = λ t n p q. one_of (λ i. mark_of s (TaskOf i) ≡ Running w) (λ i. Begins k (TaskOf i)) t n step.before.few.task (λ i j. task_alone g s w k i j step.holds) (same_task k)
      (ran_before g s w k s' step (TaskOf t) p) (ran_before g s w k s' step (TaskOf n) q);
  action = λ a n p q. one_of (λ i. mark_of s (ActionOf i) ≡ Running w) (λ i. Begins k (ActionOf i)) a n step.before.few.action (λ i j. action_alone g s w k i j step.holds) (same_action k)
      (ran_before g s w k s' step (ActionOf a) p) (ran_before g s w k s' step (ActionOf n) q);
  unit = λ u n p q. one_of (λ i. mark_of s (UnitOf i) ≡ Running w) (λ i. Begins k (UnitOf i)) u n step.before.few.unit (λ i j. unit_alone g s w k i j step.before step.holds) (same_unit k)
      (ran_before g s w k s' step (UnitOf u) p) (ran_before g s w k s' step (UnitOf n) q);
}

-- a unit that runs afterwards, where the entry makes none run
unit_ran : (g : GraphView) (s : StateView) (w : WorkerId) (k : Kind) (s' : StateView) (u : ℕ) → Step g s w k s' → (Begins k (UnitOf u) → ⊥) → mark_of s' (UnitOf u) ≡ Running w → mark_of s (UnitOf u) ≡ Running w
unit_ran g s w k s' u step none runs = at (ran_before g s w k s' step (UnitOf u) runs)
  where
    at : (mark_of s (UnitOf u) ≡ Running w) ⊎ Begins k (UnitOf u) → mark_of s (UnitOf u) ≡ Running w
    at (inl ran) = ran
    at (inr begins) = absurd (none begins)

no_unit : (g : GraphView) (s : StateView) (w : WorkerId) (k : Kind) (s' : StateView) (u : ℕ) → Step g s w k s' → (Begins k (UnitOf u) → ⊥) → runs_unit s w ≡ false → mark_of s' (UnitOf u) ≡ Running w → ⊥
no_unit g s w k s' u step none idle runs = none_runs w s.units u idle (unit_ran g s w k s' u step none runs)

-- the one that ran has ended
unit_ended : (g : GraphView) (s : StateView) (w : WorkerId) (k : Kind) (s' : StateView) (u n : ℕ) (o : Outcome) → Step g s w k s' → (Begins k (UnitOf u) → ⊥) → same_mark (mark_of s (UnitOf n)) (Running w) ≡ true → mark_of s' (UnitOf n) ≡ mark_from o → mark_of s' (UnitOf u) ≡ Running w → ⊥
unit_ended g s w k s' u n o step none ran ended runs =
    let same : u ≡ n = step.before.few.unit u n (unit_ran g s w k s' u step none runs) (same_mark_is (mark_of s (UnitOf n)) (Running w) ran) in
    not_running o w (sym ended ∙ subst (λ i. mark_of s' (UnitOf i) ≡ Running w) same runs)

-- who claims waits for an action, which goes on, or runs no task
claims_apart : (g : GraphView) (s : StateView) (w : WorkerId) (x : ℕ) (s' : StateView) (t : ℕ) → Step g s w (Claim x) s' → mark_of s' (TaskOf t) ≡ Running w → (a : ℕ) × (mark_of s' (ActionOf a) ≡ Running w)
claims_apart g s w x s' t step task = at (or_cases (is_parked s w) (is_idle s w) (and_parts _ _ step.holds).1)
  where
    stays : (a : ℕ) → mark_of s (ActionOf a) ≡ Running w → StaysOrMoves (MayMove g s w (Claim x)) (ActionOf a) (mark_of s (ActionOf a)) (mark_of s' (ActionOf a)) → mark_of s' (ActionOf a) ≡ Running w
    stays a ran (inl same) = same ∙ ran
    stays a ran (inr moved) = absurd moved.last

    ran : (mark_of s (TaskOf t) ≡ Running w) ⊎ Begins (Claim x) (TaskOf t) → mark_of s (TaskOf t) ≡ Running w
    ran (inl runs) = runs
    ran (inr begins) = absurd begins

    at : (is_parked s w ≡ true) ⊎ (is_idle s w ≡ true) → (a : ℕ) × (mark_of s' (ActionOf a) ≡ Running w)
    at (inl parked) = let found = some_runs w s.actions parked in (found.0, stays found.0 found.1 (step.moves (ActionOf found.0)))
    at (inr idle) = absurd (none_runs w s.tasks t (idle_runs s w idle).task (ran (ran_before g s w (Claim x) s' step (TaskOf t) task)))

apart_after : (g : GraphView) (s : StateView) (w : WorkerId) (k : Kind) (s' : StateView) → Step g s w k s' → (holding_of s' w).lease ≡ true → (t u : ℕ) → mark_of s' (TaskOf t) ≡ Running w → mark_of s' (UnitOf u) ≡ Running w → (a : ℕ) × (mark_of s' (ActionOf a) ≡ Running w)
apart_after g s w (Start x) s' step lease t u task unit = absurd (no_unit g s w (Start x) s' u step (λ b. b) (idle_runs s w (and_parts _ _ step.holds).1).unit unit)
apart_after g s w (Skip x) s' step lease t u task unit = absurd (no_unit g s w (Skip x) s' u step (λ b. b) (idle_runs s w (and_parts _ _ step.holds).1).unit unit)
apart_after g s w (Submit x) s' step lease t u task unit =
    absurd (works_without_unit s w (task_with g x) u step.before (and_parts _ _ (and_parts _ _ (and_parts _ _ step.holds).0).0).0 (unit_ran g s w (Submit x) s' u step (λ b. b) unit))
apart_after g s w (Park x) s' step lease t u task unit =
    absurd (works_without_unit s w (task_with g x) u step.before (and_parts _ _ step.holds).0 (unit_ran g s w (Park x) s' u step (λ b. b) unit))
apart_after g s w (Resume x) s' step lease t u task unit = absurd (no_unit g s w (Resume x) s' u step (λ b. b) (not-true (runs_unit s w) (and_parts _ _ (and_parts _ _ step.holds).0).1) unit)
apart_after g s w (Claim x) s' step lease t u task unit = claims_apart g s w x s' t step task
apart_after g s w (Close d) s' step lease t u task unit = absurd (unit_ended g s w (Close d) s' u d.unit d.outcome step (λ b. b) (and_parts _ _ step.holds).1 step.ended unit)
apart_after g s w (Block (Some x)) s' step lease t u task unit = absurd (false≢true (sym (step.blocked x refl) ∙ lease))
apart_after g s w (Block None) s' step lease t u task unit = absurd (no_unit g s w (Block None) s' u step (λ b. b) (not-true (runs_unit s w) (and_parts _ _ step.holds).1) unit)
apart_after g s w (Unblock (Some d)) s' step lease t u task unit = absurd (unit_ended g s w (Unblock (Some d)) s' u d.unit d.outcome step (λ b. b) (and_parts _ _ step.holds).1 step.ended unit)
apart_after g s w (Unblock None) s' step lease t u task unit = absurd (no_unit g s w (Unblock None) s' u step (λ b. b) (not-true (runs_unit s w) (and_parts _ _ step.holds).1) unit)
apart_after g s w (End x) s' step lease t u task unit = absurd (no_unit g s w (End x) s' u step (λ b. b) (not-true (runs_unit s w) (and_parts _ _ (and_parts _ _ step.holds).0).1) unit)
apart_after g s w Acquire s' step lease t u task unit = absurd (no_unit g s w Acquire s' u step (λ b. b) (nothing_runs s w (and_parts _ _ step.holds).1).unit unit)
apart_after g s w HandBack s' step lease t u task unit = absurd (no_unit g s w HandBack s' u step (λ b. b) (nothing_runs s w (and_parts _ _ (and_parts _ _ step.holds).0).1).unit unit)

-- who has set down its locks has no lease
set_down_lease : (h : Holding) (ls : List LockId) → h.lease ≡ false → (after_all holding_after h (parked_locks ls ++ Enter ∷ [])).lease ≡ false
set_down_lease h [] none = none
set_down_lease h (l ∷ ls) none = set_down_lease (record h { parked = h.parked ++ l ∷ [] }) ls none

lease_blocked : (g : GraphView) (s : StateView) (w : WorkerId) (k : Kind) (cs : List Change) → IsWorkerOf s w → Finishes g s w k cs → (u : ℕ) → k ≡ Block (Some u) → (holding_of (make_all s w cs) w).lease ≡ false
lease_blocked g s w k cs worker f u is = at (subst (λ (x : Kind). Finishes g s w x cs) is f)
  where
    at : Finishes g s w (Block (Some u)) cs → (holding_of (make_all s w cs) w).lease ≡ false
    at f =
        ap (λ (h : Holding). h.lease) (own_holding_all s w cs worker ∙ ap (λ (ds : List Change). after_all holding_after (holding_of s w) ds) f.list)
        ∙ set_down_lease (record (holding_of s w) { lease = false }) (owned s w) refl

pub keeps_on : (g : GraphView) (s : StateView) (w : WorkerId) (k : Kind) (cs : List Change) → BelongsTo g s → IsWorkerOf s w → IsKindOf g k → Finishes g s w k cs → Keeps s w → Keeps (make_all s w cs) w
keeps_on g s w k cs belongs worker kind f before =
    let step : Step g s w k (make_all s w cs) = record {
      before = before;
      holds = f.condition;
      moves = stays_or_moves (MayMove g s w k) cs s w (list_moves g s w k cs f.list) f.possible;
      ended = has_moved g s w k cs belongs kind f.list f.possible;
      blocked = lease_blocked g s w k cs worker f;
    } in record { few = few_after g s w k (make_all s w cs) step; apart = apart_after g s w k (make_all s w cs) step }

-- the entries of others leave it
keeps_same : (s s' : StateView) (w : WorkerId) → SameFor w s s' → Keeps s w → Keeps s' w
keeps_same s s' w same keeps = record {
  few = record {
    task = λ t n p q. keeps.few.task t n ((same.running (TaskOf t)).1 p) ((same.running (TaskOf n)).1 q);
    action = λ a n p q. keeps.few.action a n ((same.running (ActionOf a)).1 p) ((same.running (ActionOf n)).1 q);
    unit = λ u n p q. keeps.few.unit u n ((same.running (UnitOf u)).1 p) ((same.running (UnitOf n)).1 q);
  };
  apart = λ lease t u p q.
      let found = keeps.apart (ap (λ (h : Holding). h.lease) (sym same.holding) ∙ lease) t u ((same.running (TaskOf t)).1 p) ((same.running (UnitOf u)).1 q) in
      (found.0, (same.running (ActionOf found.0)).0 found.1);
}

keeps_entry : (g : GraphView) (s : StateView) (e : Entry) (w : WorkerId) → BelongsTo g s → Allowed g s e → Keeps s w → Keeps (effect s e) w
keeps_entry g s e w belongs allowed keeps = elim (cases_eq e.worker.0 w.0) [
  | inl own ↦ subst (λ (v : WorkerId). Keeps (effect s e) v) (same_worker e.worker w own) (by_changes e.changes allowed.finished (subst (Keeps s) (sym (same_worker e.worker w own)) keeps))
  | inr other ↦ keeps_same s (effect s e) w (others_after g (e ∷ []) s w (allowed, tt) (other, tt)) keeps
]
  where
    by_changes : (o : Option (List Change)) → IfSome o (Finishes g s e.worker e.kind) → Keeps s e.worker → Keeps (changed s e.worker o) e.worker
    by_changes None f before = before
    by_changes (Some cs) f before = keeps_on g s e.worker e.kind cs belongs (worker_from g s e.worker belongs allowed.worker) allowed.kind f before

belongs_entry : (g : GraphView) (s : StateView) (e : Entry) → BelongsTo g s → BelongsTo g (effect s e)
belongs_entry g s e belongs = at e.changes
  where
    at : (o : Option (List Change)) → BelongsTo g (changed s e.worker o)
    at None = belongs
    at (Some cs) = belongs_along g s (make_all s e.worker cs) (same_shape-make_all s e.worker cs) belongs

keeps_from : (g : GraphView) (s : StateView) (h : List Entry) (w : WorkerId) → BelongsTo g s → lawful_from g s h → Keeps s w → Keeps (replay_from s h) w
keeps_from g s [] w belongs lawful keeps = keeps
keeps_from g s (e ∷ h) w belongs lawful keeps = keeps_from g (effect s e) h w (belongs_entry g s e belongs) lawful.1 (keeps_entry g s e w belongs lawful.0 keeps)

none_wait : (w : WorkerId) (n i : ℕ) → get_or (replicate n Waiting) i Waiting ≡ Running w → ⊥
none_wait w n i runs = let e = all_wait n i in absurd (cc)

keeps_opening : (g : GraphView) (w : WorkerId) → Keeps (opening_of g) w
keeps_opening g w = record {
  few = record {
    task = λ t n p q. absurd (none_wait w (length g.tasks) t p);
    action = λ a n p q. absurd (none_wait w (length g.actions) a p);
    unit = λ u n p q. absurd (none_wait w g.units u p);
  };
  apart = λ lease t u p q. absurd (none_wait w (length g.tasks) t p);
}

pub keeps : (g : GraphView) (h : List Entry) (w : WorkerId) → Lawful g h → Keeps (replay g h) w
keeps g h w lawful = keeps_from g (opening_of g) h w (belongs_opening g) lawful (keeps_opening g w)

-- so few stand in the list of what it runs
places_none : (test : Mark → Bool) (d : Mark) (n : ℕ) (xs : List Mark) → ((i : ℕ) → i < length xs → test (get_or xs i d) ≡ true → ⊥) → length (places_from test n xs) ≡ 0
places_none test d n [] none = refl
places_none test d n (x ∷ xs) none = elim (cases_Bool (test x)) [
  | inl is ↦ absurd (none 0 (omega arith) is)
  | inr fails ↦ (λ i. length (cond (fails i) (n ∷ places_from test (n + 1) xs) (places_from test (n + 1) xs))) ∙ places_none test d (n + 1) xs (λ i h. none (suc i) (omega arith))
]

places_few : (test : Mark → Bool) (d : Mark) (n : ℕ) (xs : List Mark) → ((i j : ℕ) → test (get_or xs i d) ≡ true → test (get_or xs j d) ≡ true → i ≡ j) → length (places_from test n xs) ≤ 1
places_few test d n [] one = omega arith
places_few test d n (x ∷ xs) one = elim (cases_Bool (test x)) [
  | inl is ↦
      let rest : length (places_from test (n + 1) xs) ≡ 0 = places_none test d (n + 1) xs (λ i h passes. let same : 0 ≡ suc i = one 0 (suc i) is passes in absurd (omega arith)) in
      let whole : length (cond (test x) (n ∷ places_from test (n + 1) xs) (places_from test (n + 1) xs)) ≡ suc (length (places_from test (n + 1) xs)) =
      (λ i. length (cond (is i) (n ∷ places_from test (n + 1) xs) (places_from test (n + 1) xs))) in
      omega (arith, rest, whole)
  | inr fails ↦
      let rest : length (places_from test (n + 1) xs) ≤ 1 = places_few test d (n + 1) xs (λ i j p q. let same : suc i ≡ suc j = one (suc i) (suc j) p q in omega arith) in
      let whole : length (cond (test x) (n ∷ places_from test (n + 1) xs) (places_from test (n + 1) xs)) ≡ length (places_from test (n + 1) xs) =
      (λ i. length (cond (fails i) (n ∷ places_from test (n + 1) xs) (places_from test (n + 1) xs))) in
      omega (arith, rest, whole)
]

pub few_claimed : (s : StateView) (w : WorkerId) → RunsFew s w → length (claimed s w) ≤ 3
few_claimed s w few =
    let ts : List ℕ = places_from (runs_by w) 0 s.tasks in
    let qs : List ℕ = places_from (runs_by w) 0 s.actions in
    let us : List ℕ = places_from (runs_by w) 0 s.units in
    let run : (marks : List Mark) → ((i j : ℕ) → get_or marks i Waiting ≡ Running w → get_or marks j Waiting ≡ Running w → i ≡ j) → length (places_from (runs_by w) 0 marks) ≤ 1 =
    λ marks one. places_few (runs_by w) Waiting 0 marks (λ i j p q. one i j (running_of w (get_or marks i Waiting) p) (running_of w (get_or marks j Waiting) q)) in
    omega (
      arith,
      length-append (map task_at ts) (map action_at qs ++ map unit_at us),
      length-append (map action_at qs) (map unit_at us),
      length-map ts task_at,
      length-map qs action_at,
      length-map us unit_at,
      run s.tasks few.task,
      run s.actions few.action,
      run s.units few.unit,
    )
