-- The step of what a worker does next in its task is enabled, on the very book that the choice was made of.
use Rattle.std.proofs.Common.{◌≡◌, ◌⊎◌, ℕ, zero, suc, ◌+◌, ◌<◌, Bool, true, false, ◌&&◌, ◌||◌, eqb, length, get_or, None, Some, inl, inr, refl, sym, ap, ◌∙◌, subst, arith}
use Rattle.std.specs.Prelude.{find, if◌then◌else◌, ◌≤◌}
use Rattle.std.specs.List.{list_any, range_with_len}
use Rattle.std.proofs.lemmas.Bool.{and_from, and_parts, cases_eq, eq-eqb, false≢true, false_from_ne_true, not_from_false, true_from_ne_false}
use Rattle.std.proofs.lemmas.List.Folds.{list_any_at}
use Rattle.std.proofs.lemmas.List.FromFn.{get_or-range_with_len, length-range_with_len}
use Rattle.lock_journal.specs.Names.{can, make, same_mark, Good, Fits, GraphView, action_of, task_of, IsIn, lock_with, task_with, Holding, StateView}
use Rattle.lock_journal.specs.Names.{holding_of, is_parked, mark_of, runs_unit, IsWorkerOf, Move, WorkerId, Waiting, Queued, Running, TaskOf}
use Rattle.lock_journal.specs.Names.{ActionOf, UnitOf, condition, earlier_passed, is_enabled, works_on, Block, End, Park, Resume, Submit, BookView}
use Rattle.lock_journal.specs.Names.{is_unit}
use Rattle.resource_lock.proofs.lemmas.Kept.{kept}
use Rattle.resource_lock.proofs.lemmas.Runs.{worker_from}
use Rattle.resource_lock.proofs.lemmas.Undo.{same_mark_is}
use Rattle.lock_transforms.proofs.SetDown.{can_set_down}
use Rattle.lock_journal.proofs.Queue.{queued_is_item}
use Rattle.lock_journal.proofs.Kept.{IsKept}
use Rattle.lock_journal.proofs.Runs.{holds_after}
use Rattle.lock_journal.proofs.lemmas.Claims.{action_claimed, task_runs, unit_claimed}
use Rattle.lock_journal.proofs.lemmas.Fitting.{apart_of}
use Rattle.worker_choices.specs.NextSteps.{CanGoOn}
use Rattle.coordination.specs.Names.{Finds, claimed_shown}
use Rattle.coordination.specs.declared.rule.Sight.{Sight}
use Rattle.worker_notes.proofs.lemmas.Entries.{belongs_sound, good_sound}
use Rattle.async_tracker.specs.ParkedView.{ParkedView}
use Rattle.async_tracker.specs.Shows.{IsFree, IsParkedBy, OwnsToPark, WorksOn}
use Rattle.async_tracker.specs.Waits.{can_queue}
use Rattle.async_tracker.proofs.Parking.{cannot_queue, not_queued, works_found}
use Rattle.async_tracker.proofs.lemmas.Resumed.{resumes_at_once as never_waits}
use Rattle.single_steps.specs.TaskMoves.{IsNextInTask, can_come, fetch_waits, first_to_come, is_queued}
use Rattle.single_steps.specs.declared.task_moves.TaskMove.TheVariants as moves
use Rattle.single_steps.proofs.TaskActions.{AreInStep, in_step_after, queues_next}
use Rattle.single_steps.proofs.TaskEnds.{AreUnderTasks, is_through_here, under_tasks_after}

-- the wait for items that are queued
pub parks_at_once : (old : Sight) (book : BookView) (a : ℕ) → Finds old.worker old.seen book → a < length old.seen.graph.actions → WorksOn old (task_with old.seen.graph a)
    → OwnsToPark (action_of old.seen.graph a).retention (lock_with old.seen.graph a) old → is_queued book.state a ≡ true → is_enabled book.graph book.state old.worker (Park a) ≡ true
parks_at_once old book a found there works own queued =
    true_from_ne_false _ (λ off. not_queued old book a found there works own (λ kind. off) (same_mark_is (mark_of book.state (ActionOf a)) Queued queued))

-- the items of an action that can be queued
pub submits_at_once : (old : Sight) (book : BookView) (a : ℕ) → Finds old.worker old.seen book → a < length old.seen.graph.actions → WorksOn old (task_with old.seen.graph a)
    → can_queue book.graph book.state a ≡ true → is_enabled book.graph book.state old.worker (Submit a) ≡ true
submits_at_once old book a found there works ready =
    true_from_ne_false _ (λ off. false≢true (sym (cannot_queue old book a found there works (λ kind. off)) ∙ ready))

-- a parked worker that can go on
pub resumes_at_once : (old : Sight) (book : BookView) (p : ParkedView) → Finds old.worker old.seen book → IsParkedBy old p → IsFree old → CanGoOn book.graph old.worker book.state p.action
    → is_enabled book.graph book.state old.worker (Resume p.action) ≡ true
resumes_at_once old book p found by free can = true_from_ne_false _ (λ off. never_waits old book p found by free can (λ kind. off))

-- the fetch of an action of the graph, which waits as its action does
module _ (g : GraphView) (s : StateView) (w : WorkerId) (a : ℕ) (works : works_on s w (task_with g a) ≡ true) (action : same_mark (mark_of s (ActionOf a)) Waiting ≡ true)
    (earlier : earlier_passed g s a ≡ true) (waits : fetch_waits g s a ≡ true) where
  fetch_meets : a < length g.actions → condition g s w (Block (Some (action_of g a).first_unit)) ≡ true
  fetch_meets within =
      let fetch = and_parts (action_of g a).fetch (same_mark (mark_of s (UnitOf (action_of g a).first_unit)) Waiting) waits in
      let one : ((action_of g a).fetch && eqb (action_of g a).first_unit (action_of g a).first_unit && works_on s w (task_with g a) && same_mark (mark_of s (ActionOf a)) Waiting && same_mark (mark_of s (UnitOf (action_of g a).first_unit)) Waiting && earlier_passed g s a) ≡ true =
      and_from _ _ (and_from _ _ (and_from _ _ (and_from _ _ (and_from _ _ fetch.0 (eq-eqb (action_of g a).first_unit (action_of g a).first_unit refl)) works) action) fetch.1) earlier in
      let place : get_or (range_with_len 0 (length g.actions)) a 0 ≡ a = omega (arith, get_or-range_with_len 0 (length g.actions) a 0 within) in
      list_any_at (λ b. (action_of g b).fetch && eqb (action_of g b).first_unit (action_of g a).first_unit && works_on s w (task_with g b) && same_mark (mark_of s (ActionOf b)) Waiting && same_mark (mark_of s (UnitOf (action_of g a).first_unit)) Waiting && earlier_passed g s b)
      (range_with_len 0 (length g.actions)) a 0 (omega (arith, length-range_with_len 0 (length g.actions)))
      (ap (λ b. (action_of g b).fetch && eqb (action_of g b).first_unit (action_of g a).first_unit && works_on s w (task_with g b) && same_mark (mark_of s (ActionOf b)) Waiting && same_mark (mark_of s (UnitOf (action_of g a).first_unit)) Waiting && earlier_passed g s b) place ∙ one)

  fetch_moves : can s w (Move (UnitOf (action_of g a).first_unit) Waiting (Running w)) ≡ true
  fetch_moves =
      let fetch = and_parts (action_of g a).fetch (same_mark (mark_of s (UnitOf (action_of g a).first_unit)) Waiting) waits in
      and_from _ _ (and_from _ _ (and_from _ _ fetch.1 refl) refl) (eq-eqb w.0 w.0 refl)

  fetch_enabled : a < length g.actions → (action_of g a).first_unit < length s.units → IsWorkerOf s w → Good s → (holding_of s w).lease ≡ true → is_enabled g s w (Block (Some (action_of g a).first_unit)) ≡ true
  fetch_enabled within there worker good lease =
      let good_then : Good (make s w (Move (UnitOf (action_of g a).first_unit) Waiting (Running w))) = kept s w (Move (UnitOf (action_of g a).first_unit) Waiting (Running w)) worker there good fetch_moves in
      and_from (condition g s w (Block (Some (action_of g a).first_unit))) _ (fetch_meets within)
      (and_from (can s w (Move (UnitOf (action_of g a).first_unit) Waiting (Running w))) _ fetch_moves (can_set_down (make s w (Move (UnitOf (action_of g a).first_unit) Waiting (Running w))) w worker good_then lease))

pub fetches_at_once : (old : Sight) (book : BookView) (a : ℕ) → Finds old.worker old.seen book → a < length old.seen.graph.actions → (action_of book.graph a).first_unit < book.graph.units → WorksOn old (task_with old.seen.graph a)
    → same_mark (mark_of book.state (ActionOf a)) Waiting ≡ true → earlier_passed book.graph book.state a ≡ true → fetch_waits book.graph book.state a ≡ true
    → is_enabled book.graph book.state old.worker (Block (Some (action_of book.graph a).first_unit)) ≡ true
fetches_at_once old book a found there unit works action earlier waits =
    let graph : old.seen.graph ≡ book.graph = sym found.agrees.graph in
    let here : a < length book.graph.actions = subst (λ (g : GraphView). a < length g.actions) graph there in
    let on : works_on book.state old.worker (task_with book.graph a) ≡ true = subst (λ (g : GraphView). works_on book.state old.worker (task_with g a) ≡ true) graph (works_found old book (task_with old.seen.graph a) found works) in
    let belongs = belongs_sound book found.sound in
    let within : (action_of book.graph a).first_unit < length book.state.units = omega (arith, unit, belongs.units) in
    fetch_enabled book.graph book.state old.worker a on action earlier waits here within (worker_from book.graph book.state old.worker belongs found.known) (good_sound book found.sound)
    (ap (λ (h : Holding). h.lease) found.agrees.state.holding ∙ works.lease)

-- what comes next of an action, by what does
fetch_comes : (queued waits : Bool) (n a u : ℕ) → moves.Fetch u ≡ (if queued then moves.Park a else if waits then moves.Fetch n else moves.Submit a) → (queued ≡ false) × (waits ≡ true) × (u ≡ n)
fetch_comes true waits n a u is = absurd (cc)
fetch_comes false true n a u is = (refl, refl, cc)
fetch_comes false false n a u is = absurd (cc)

items_come : (queued waits : Bool) (n a b : ℕ) → moves.Submit b ≡ (if queued then moves.Park a else if waits then moves.Fetch n else moves.Submit a) → (queued ≡ false) × (waits ≡ false) × (b ≡ a)
items_come true waits n a b is = absurd (cc)
items_come false true n a b is = absurd (cc)
items_come false false n a b is = (refl, refl, cc)

wait_comes : (queued waits : Bool) (n a b : ℕ) → moves.Park b ≡ (if queued then moves.Park a else if waits then moves.Fetch n else moves.Submit a) → (queued ≡ true) × (b ≡ a)
wait_comes true waits n a b is = (refl, cc)
wait_comes false true n a b is = absurd (cc)
wait_comes false false n a b is = absurd (cc)

-- what is found in a range
found : (p : ℕ → Bool) (first n a : ℕ) → find p (range_with_len first n) ≡ Some a → IsIn first n a × (p a ≡ true)
found p first zero a is = absurd (cc)
found p first (suc n) a is = at (p first) refl is (found p (first + 1) n a)
  where
    at : (b : Bool) → p first ≡ b → (if b then Some first else find p (range_with_len (first + 1) n)) ≡ Some a → (find p (range_with_len (first + 1) n) ≡ Some a → IsIn (first + 1) n a × (p a ≡ true)) → IsIn first (suc n) a × (p a ≡ true)
    at true holds here rest = let same : first ≡ a = cc in ((omega (arith, same), omega (arith, same)), subst (λ x. p x ≡ true) same holds)
    at false none later rest = let behind = rest later in ((omega (arith, behind.0.0), omega (arith, behind.0.1)), behind.1)

-- what isn't found in a range
none_found : (p : ℕ → Bool) (first n : ℕ) → find p (range_with_len first n) ≡ None → (b : ℕ) → first ≤ b → b < first + n → p b ≡ false
none_found p first zero is b low high = absurd (omega (arith, low, high))
none_found p first (suc n) is b low high = at (p first) refl is (none_found p (first + 1) n) b low high
  where
    at : (x : Bool) → p first ≡ x → (if x then Some first else find p (range_with_len (first + 1) n)) ≡ None → (find p (range_with_len (first + 1) n) ≡ None → (k : ℕ) → first + 1 ≤ k → k < first + 1 + n → p k ≡ false) → (k : ℕ) → first ≤ k → k < first + suc n → p k ≡ false
    at true holds here rest k from below = absurd (cc)
    at false none later rest k from below = elim (cases_eq k first) [
      | inl same ↦ subst (λ x. p x ≡ false) (sym same) none
      | inr other ↦ rest later k (omega (arith, from, other)) (omega (arith, below))
    ]

-- The first action that can come is one of the task, and of the graph.
record Comes (g : GraphView) (s : StateView) (t a : ℕ) : Type 0 where
  can : can_come g s a ≡ true
  within : a < length g.actions
  task : t ≡ task_with g a

comes : (g : GraphView) (s : StateView) (t a : ℕ) → Fits g → first_to_come g s t ≡ Some a → Comes g s t a
comes g s t a fits first =
    let apart = apart_of g fits in
    let it = found (can_come g s) (task_of g t).first_action (task_of g t).actions a first in
    let within : a < length g.actions = apart.action_within t a it.0 in
    record { can = it.1; within = within; task = apart.one_task t (task_with g a) a it.0 (apart.own_task a within) }

waits_behind : (queued waits earlier : Bool) → (queued || (waits && earlier)) ≡ true → queued ≡ false → (waits ≡ true) × (earlier ≡ true)
waits_behind true waits earlier can none = absurd (false≢true (sym none))
waits_behind false waits earlier can none = and_parts waits earlier can

-- What is next in a task is done at once, by the worker that works on it and has claimed no unit: its step can finish in the book that the choice was made of.
module _ (old : Sight) (book : BookView) (t : ℕ) (fits : Fits book.graph) (finds : Finds old.worker old.seen book) (works : WorksOn old t) where
  here : (a : ℕ) → Comes book.graph book.state t a → (a < length old.seen.graph.actions) × WorksOn old (task_with old.seen.graph a)
  here a it = subst (λ (g : GraphView). (a < length g.actions) × WorksOn old (task_with g a)) finds.agrees.graph (it.within, subst (WorksOn old) it.task works)

  pub next_fetch : (u : ℕ) → IsNextInTask book.graph old.worker book.state t (moves.Fetch u) → is_enabled book.graph book.state old.worker (Block (Some u)) ≡ true
  next_fetch u next =
      let a : ℕ = next.1 in
      let it = comes book.graph book.state t a fits next.2 in
      let why = fetch_comes (is_queued book.state a) (fetch_waits book.graph book.state a) _ a u next.3 in
      let both = waits_behind (is_queued book.state a) (same_mark (mark_of book.state (ActionOf a)) Waiting) (earlier_passed book.graph book.state a) it.can why.0 in
      let fetch = (and_parts (action_of book.graph a).fetch _ why.1).0 in
      let within = ((apart_of book.graph fits).unit_within a (action_of book.graph a).first_unit (inl (fetch, refl))).1 in
      subst (λ n. is_enabled book.graph book.state old.worker (Block (Some n)) ≡ true) (sym why.2)
      (fetches_at_once old book a finds (here a it).0 within (here a it).1 both.0 both.1 why.1)

  pub next_items : (b : ℕ) → list_any is_unit (claimed_shown old) ≡ false → IsNextInTask book.graph old.worker book.state t (moves.Submit b) → is_enabled book.graph book.state old.worker (Submit b) ≡ true
  next_items b none next =
      let a : ℕ = next.1 in
      let it = comes book.graph book.state t a fits next.2 in
      let why = items_come (is_queued book.state a) (fetch_waits book.graph book.state a) _ a b next.3 in
      let both = waits_behind (is_queued book.state a) (same_mark (mark_of book.state (ActionOf a)) Waiting) (earlier_passed book.graph book.state a) it.can why.0 in
      let step = subst (AreInStep book.graph) (sym finds.sound.replays) (in_step_after book.graph book.history fits finds.sound.lawful) in
      let runs : mark_of book.state (TaskOf (task_with book.graph a)) ≡ Running old.worker =
      subst (λ k. mark_of book.state (TaskOf k) ≡ Running old.worker) it.task ((finds.agrees.state.running (TaskOf t)).0 (task_runs old.seen.state old.worker t works.task)) in
      let free : runs_unit book.state old.worker ≡ false = finds.agrees.state.runs_unit ∙ (sym (unit_claimed old.seen.state old.worker) ∙ none) in
      let ready = queues_next book.graph book.state old.worker fits step (λ u queued. queued_is_item book.graph book.history u fits finds.sound.lawful (subst (λ (s : StateView). mark_of s (UnitOf u) ≡ Queued) finds.sound.replays queued))
      a runs free (same_mark_is (mark_of book.state (ActionOf a)) Waiting both.0) both.1 why.1 in
      subst (λ n. is_enabled book.graph book.state old.worker (Submit n) ≡ true) (sym why.2) (submits_at_once old book a finds (here a it).0 (here a it).1 ready)

  pub next_wait : (b : ℕ) → OwnsToPark (action_of old.seen.graph b).retention (lock_with old.seen.graph b) old → IsNextInTask book.graph old.worker book.state t (moves.Park b) → is_enabled book.graph book.state old.worker (Park b) ≡ true
  next_wait b own next =
      let a : ℕ = next.1 in
      let it = comes book.graph book.state t a fits next.2 in
      let why = wait_comes (is_queued book.state a) (fetch_waits book.graph book.state a) _ a b next.3 in
      let own_here = subst (λ n. OwnsToPark (action_of old.seen.graph n).retention (lock_with old.seen.graph n) old) why.1 own in
      subst (λ n. is_enabled book.graph book.state old.worker (Park n) ≡ true) (sym why.1) (parks_at_once old book a finds (here a it).0 (here a it).1 own_here why.0)

  -- The condition of the task's end holds, where the worker runs no unit.
  pub next_end : list_any is_unit (claimed_shown old) ≡ false → IsNextInTask book.graph old.worker book.state t moves.End → condition book.graph book.state old.worker (End t) ≡ true
  next_end none next =
      let same = finds.agrees.state in
      let kept = subst (IsKept book.graph) (sym finds.sound.replays) (holds_after book.graph book.history (apart_of book.graph fits) finds.sound.lawful).kept in
      let step = subst (AreInStep book.graph) (sym finds.sound.replays) (in_step_after book.graph book.history fits finds.sound.lawful) in
      let under = subst (AreUnderTasks book.graph) (sym finds.sound.replays) (under_tasks_after book.graph book.history fits finds.sound.lawful) in
      let runs : mark_of book.state (TaskOf t) ≡ Running old.worker = (same.running (TaskOf t)).0 (task_runs old.seen.state old.worker t works.task) in
      let alone : is_parked book.state old.worker ≡ false = same.is_parked ∙ (sym (action_claimed old.seen.state old.worker) ∙ works.actions) in
      let free : runs_unit book.state old.worker ≡ false = same.runs_unit ∙ (sym (unit_claimed old.seen.state old.worker) ∙ none) in
      let leased : (holding_of book.state old.worker).lease ≡ true = ap (λ (h : Holding). h.lease) same.holding ∙ works.lease in
      let open_now : (holding_of book.state old.worker).blocked ≡ false = false_from_ne_true (holding_of book.state old.worker).blocked (λ is. false≢true (sym ((good_sound book finds.sound).blocked_no_lease old.worker is) ∙ leased)) in
      let come : first_to_come book.graph book.state t ≡ None = none_comes leased next in
      let through = is_through_here book.graph book.state old.worker t fits kept step under runs alone (λ b ib. none_found (can_come book.graph book.state) (task_of book.graph t).first_action (task_of book.graph t).actions come b ib.0 ib.1) in
      and_from _ _ (and_from _ _ (and_from _ _ (and_from _ _ (ap (λ m. same_mark m (Running old.worker)) runs ∙ eq-eqb old.worker.0 old.worker.0 refl) (not_from_false _ alone)) (not_from_false _ open_now)) (not_from_false _ free)) through
    where
      none_comes : (holding_of book.state old.worker).lease ≡ true → ((holding_of book.state old.worker).lease ≡ false) ⊎ (first_to_come book.graph book.state t ≡ None) → first_to_come book.graph book.state t ≡ None
      none_comes leased (inl out) = absurd (false≢true (sym out ∙ leased))
      none_comes leased (inr come) = come
