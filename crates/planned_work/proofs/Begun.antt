-- Which marks an entry makes run, and what conditions say of those that its worker runs.
use Rattle.std.proofs.Common.{◌≡◌, ℕ, suc, ◌⊎◌, Bool, true, false, not, cond, ◌&&◌, ◌||◌, ◌==◌, List, [], ◌∷◌, length, get_or, Some, inl, inr, refl, sym, ap, ◌∙◌, subst}
use Rattle.std.specs.List.{list_any, range_with_len}
use Rattle.std.proofs.lemmas.Bool.{and_parts, eq-eqb, eqb-true, false≢true, not-true, or_cases, or_parts}
use Rattle.std.proofs.lemmas.List.Folds.{Any-from_list_any, list_any_at}
use Rattle.item_actions.specs.declared.outcomes.Outcome.{Outcome}
use Rattle.item_actions.specs.declared.outcomes.Outcome.TheVariants.{Number, Digest}
use Rattle.lock_journal.specs.Names.{make_all, same_mark, GraphView, action_of, IsFetchOf, task_with, StateView, holding_of, is_idle, is_parked}
use Rattle.lock_journal.specs.Names.{mark_of, runs_any, runs_by, runs_task, runs_unit, IsMarkOf, Change, WorkerId, Mark, Waiting, Running, Passed}
use Rattle.lock_journal.specs.Names.{Failed, MarkId, TaskOf, ActionOf, UnitOf, Finishes, condition, earlier_passed, mark_from, works_on, Kind, Start}
use Rattle.lock_journal.specs.Names.{Skip, Submit, Park, Resume, Claim, Close, Block, Unblock, End}
use Rattle.resource_lock.proofs.lemmas.Undo.{same_mark_is}
use Rattle.lock_journal.proofs.Marks.{AllMoves-weaker, GoesTo, Names, StaysOrMoves, moves_to, stays_or_moves}
use Rattle.lock_journal.proofs.Moves.{MayMove, list_moves}
use Rattle.lock_journal.proofs.lemmas.Others.{running_of}
use Rattle.single_steps.proofs.TaskActions.{running_within}

-- the mark that an entry of the kind makes run
abbrev pub Begins : Kind → MarkId → Type 0
Begins (Start t) (TaskOf n) = n ≡ t
Begins (Park a) (ActionOf n) = n ≡ a
Begins (Claim u) (UnitOf n) = n ≡ u
Begins (Block (Some u)) (UnitOf n) = n ≡ u
Begins _ _ = ⊥

pub not_running : (o : Outcome) (w : WorkerId) → mark_from o ≡ Running w → ⊥
not_running (Number n) w h = absurd (cc)
not_running (Digest d) w h = absurd (cc)
not_running _ w h = absurd (cc)

pub not_either : (b : Bool) (w : WorkerId) → cond b Passed Failed ≡ Running w → ⊥
not_either true w h = absurd (cc)
not_either false w h = absurd (cc)

begun : (g : GraphView) (s : StateView) (w : WorkerId) (k : Kind) (m : MarkId) (from to : Mark) → MayMove g s w k m from to → to ≡ Running w → Begins k m
begun g s w (Start t) (TaskOf n) from to p is = p.0
begun g s w (Skip t) (TaskOf n) from to p is = absurd (cc (p.2, is))
begun g s w (Skip t) (ActionOf n) from to p is = absurd (cc (p.2, is))
begun g s w (Skip t) (UnitOf n) from to p is = absurd (cc (p.2, is))
begun g s w (Submit a) (ActionOf n) from to p is = absurd (cc (p.2, is))
begun g s w (Submit a) (UnitOf n) from to p is = absurd (cc (p.2, is))
begun g s w (Park a) (ActionOf n) from to p is = p.0
begun g s w (Resume a) (ActionOf n) from to p is = absurd (cc (p.2, is))
begun g s w (Claim u) (UnitOf n) from to p is = p.0
begun g s w (Close d) (UnitOf n) from to p is = absurd (not_running d.outcome w (sym p.2 ∙ is))
begun g s w (Block (Some u)) (UnitOf n) from to p is = p.0
begun g s w (Unblock (Some d)) (UnitOf n) from to p is = absurd (not_running d.outcome w (sym p.2 ∙ is))
begun g s w (End t) (TaskOf n) from to p is = absurd (not_either _ w (sym p.2 ∙ is))
begun g s w (End t) (ActionOf n) from to p is = absurd (cc (p.2, is))
begun g s w (End t) (UnitOf n) from to p is = absurd (cc (p.2, is))
begun g s w _ _ from to p is = absurd p

module _ (g : GraphView) (s : StateView) (w : WorkerId) (k : Kind) (cs : List Change) (f : Finishes g s w k cs) where
  pub moved : (m : MarkId) → StaysOrMoves (MayMove g s w k) m (mark_of s m) (mark_of (make_all s w cs) m)
  moved = stays_or_moves (MayMove g s w k) cs s w (list_moves g s w k cs f.list) f.possible

  -- what runs afterwards ran before, or the entry made it run
  pub ran_before : (m : MarkId) → mark_of (make_all s w cs) m ≡ Running w → (mark_of s m ≡ Running w) ⊎ Begins k m
  ran_before m is = at (moved m)
    where
      at : StaysOrMoves (MayMove g s w k) m (mark_of s m) (mark_of (make_all s w cs) m) → (mark_of s m ≡ Running w) ⊎ Begins k m
      at (inl same) = inl (sym same ∙ is)
      at (inr move) = inr (begun g s w k m move.last_from (mark_of (make_all s w cs) m) move.last is)

  pub ran : (m : MarkId) → (Begins k m → ⊥) → mark_of (make_all s w cs) m ≡ Running w → mark_of s m ≡ Running w
  ran m never is = elim (ran_before m is) [
    | inl before ↦ before
    | inr begins ↦ absurd (never begins)
  ]

  -- a mark that is moved, where each move of the kind leads to the same
  pub lands : (m : MarkId) (to : Mark) → ((a b : Mark) → MayMove g s w k m a b → b ≡ to) → IsMarkOf s m → Names m cs → mark_of (make_all s w cs) m ≡ to
  lands m to goes within named =
      moves_to m to cs s w (AllMoves-weaker (MayMove g s w k) (GoesTo m to) (λ n a b p e. goes a b (subst (λ z. MayMove g s w k z a b) e p)) cs (list_moves g s w k cs f.list)) f.possible within (inr named)

-- what conditions say of the worker
pub record RunsNothing (s : StateView) (w : WorkerId) : Type 0 where
  pub task : runs_task s w ≡ false
  pub action : is_parked s w ≡ false
  pub unit : runs_unit s w ≡ false

pub nothing_runs : (s : StateView) (w : WorkerId) → not (runs_any s w) ≡ true → RunsNothing s w
nothing_runs s w h =
    let all = or_parts (runs_task s w || is_parked s w) (runs_unit s w) (not-true (runs_any s w) h) in
    let others = or_parts (runs_task s w) (is_parked s w) all.0 in
    record { task = others.0; action = others.1; unit = all.1 }

pub idle_runs : (s : StateView) (w : WorkerId) → is_idle s w ≡ true → RunsNothing s w
idle_runs s w h = nothing_runs s w (and_parts _ _ h).1

pub task_runs_by : (s : StateView) (w : WorkerId) (t : ℕ) → mark_of s (TaskOf t) ≡ Running w → runs_task s w ≡ true
task_runs_by s w t is = list_any_at (runs_by w) s.tasks t Waiting (running_within s.tasks t w is) (ap (runs_by w) is ∙ eq-eqb w.0 w.0 refl)

pub some_runs : (w : WorkerId) (marks : List Mark) → list_any (runs_by w) marks ≡ true → (i : ℕ) × (get_or marks i Waiting ≡ Running w)
some_runs w [] h = absurd (false≢true h)
some_runs w (m ∷ marks) h = at (or_cases (runs_by w m) (list_any (runs_by w) marks) h) (some_runs w marks)
  where
    at : (runs_by w m ≡ true) ⊎ (list_any (runs_by w) marks ≡ true) → (list_any (runs_by w) marks ≡ true → (i : ℕ) × (get_or marks i Waiting ≡ Running w)) → (i : ℕ) × (get_or (m ∷ marks) i Waiting ≡ Running w)
    at (inl here) rest = (0, running_of w m here)
    at (inr later) rest = let found = rest later in (suc found.0, found.1)

-- who works on a task
pub record Works (s : StateView) (w : WorkerId) (t : ℕ) : Type 0 where
  pub task : mark_of s (TaskOf t) ≡ Running w
  pub lease : (holding_of s w).lease ≡ true
  pub waits : is_parked s w ≡ false

pub works : (s : StateView) (w : WorkerId) (t : ℕ) → works_on s w t ≡ true → Works s w t
works s w t h =
    let p = and_parts _ _ h in
    let q = and_parts _ _ p.0 in
    record { task = same_mark_is (mark_of s (TaskOf t)) (Running w) q.0; lease = q.1; waits = not-true (is_parked s w) p.1 }

pub works_to_fetch : (g : GraphView) (s : StateView) (w : WorkerId) (u : ℕ) → condition g s w (Block (Some u)) ≡ true → (a : ℕ) × IsFetchOf g a u × Works s w (task_with g a)
works_to_fetch g s w u h =
    let found = Any-from_list_any (λ a. (action_of g a).fetch && (action_of g a).first_unit == u && works_on s w (task_with g a) && same_mark (mark_of s (ActionOf a)) Waiting && same_mark (mark_of s (UnitOf u)) Waiting && earlier_passed g s a) (range_with_len 0 (length g.actions)) h in
    let at = and_parts _ _ (and_parts _ _ (and_parts _ _ (and_parts _ _ found.4).0).0).0 in
    let fetch = and_parts _ _ at.0 in
    (found.1, (fetch.0, sym (eqb-true (action_of g found.1).first_unit u fetch.1)), works s w (task_with g found.1) at.1)
