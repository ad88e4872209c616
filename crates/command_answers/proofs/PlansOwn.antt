-- Two runs of one plan whose units gave their values have the same results.
use Rattle.std.proofs.Common.{◌≡◌, ◌≢◌, ℕ, zero, suc, ◌+◌, ◌-◌, ◌<◌, Bool, List, [], ◌∷◌, length, Some, refl, sym, ◌∙◌, ap, arith}
use Rattle.std.specs.Prelude.{if◌then◌else◌, slice_index_or}
use Rattle.std.specs.List.{AllByRecursion, list_all, range_with_len}
use Rattle.item_actions.specs.Files.{Folder}
use Rattle.item_actions.specs.Value.{passes}
use Rattle.item_actions.specs.declared.outcomes.Outcome.{Outcome}
use Rattle.item_actions.specs.declared.outcomes.Outcome.TheVariants as outcomes
use Rattle.lock_journal.specs.Names.{Fits, GraphView, GraphTaskView, no_task, no_action, task_of, actions_of, units_in, units_of, LockId, GraphAction}
use Rattle.lock_journal.specs.Names.{BookView, closings, outcome_in, has_passed, answers, outcome_by, action_passes, earlier_pass, is_skipped}
use Rattle.lock_journal.specs.Names.{task_outcome, task_passes, unit_outcome}
use Rattle.plan_reader.specs.Graph.{all_projects_lock, graph_of, task_lock, tasks_from}
use Rattle.plan_reader.specs.PlanView.{PlanTaskView, PlanView}
use Rattle.plan_reader.specs.Units.{plan_units, unit_value}
use Rattle.lock_journal.specs.Answers.{answer_by}
use Rattle.lock_journal.specs.ByNumber.{action_with, first_with, has_unit}
use Rattle.lock_journal.specs.Outcomes.{mark_by}
use Rattle.build_workers.specs.RunDesks.{known_by}
use Rattle.build_workers.specs.Desks.{DeskView}
use Rattle.build_workers.specs.Run.{IsRunOf, depth}
use Rattle.build_workers.specs.declared.options.RunOptions.{RunOptions}
use Rattle.history_text.specs.Results.{results_text, summary_text, task_marks}
use Rattle.command_answers.specs.Answered.{all_pass}
use Rattle.command_answers.specs.SameResults.{HasNoTrouble, HaveSameResults}
use Rattle.command_answers.proofs.lemmas.Reports.{ByNumber, UnitsByNumber, comes_to_known, same_pass, task_mark, tasks_in_plan}

-- ---- what each unit gives

own_answer : (os : List Outcome) (value : Outcome) → AllByRecursion (λ o. (o ≢ outcomes.Fault) × (o ≢ outcomes.NoMemory)) os → answer_by os value ≡ value
own_answer [] value fine = refl
own_answer (outcomes.Number n ∷ os) value fine = refl
own_answer (outcomes.Digest bytes ∷ os) value fine = refl
own_answer (outcomes.NotThere ∷ os) value fine = refl
own_answer (outcomes.TooLong ∷ os) value fine = refl
own_answer (outcomes.Skipped ∷ os) value fine = refl
own_answer (outcomes.Fault ∷ os) value fine = absurd (fine.0.0 refl)
own_answer (outcomes.NoMemory ∷ os) value fine = absurd (fine.0.1 refl)

-- ---- graphs that differ in locks, workers and leases alone

all_same : {A : Type 0} (f h : A → Bool) (xs : List A) → ((x : A) → f x ≡ h x) → list_all f xs ≡ list_all h xs
all_same f h [] same = refl
all_same f h (x ∷ xs) same = rw (same x) (rw (all_same f h xs same) refl)

record SameTask (t u : GraphTaskView) : Type 0 where
  after : t.after ≡ u.after
  first : t.first_action ≡ u.first_action
  actions : t.actions ≡ u.actions

record SameTasks (g h : GraphView) : Type 0 where
  tasks : (t : ℕ) → SameTask (task_of g t) (task_of h t)
  actions : g.actions ≡ h.actions

tasks_same : (p q : PlanTaskView → LockId) (first : ℕ) (ts : List PlanTaskView) (t : ℕ) → SameTask (slice_index_or (tasks_from p first ts) t no_task) (slice_index_or (tasks_from q first ts) t no_task)
tasks_same p q first [] t = record { after = refl; first = refl; actions = refl }
tasks_same p q first (x ∷ ts) zero = record { after = refl; first = refl; actions = refl }
tasks_same p q first (x ∷ ts) (suc t) = tasks_same p q (first + length x.actions) ts t

of_plan : (plan : PlanView) (one other : RunOptions) (g h : GraphView) → g ≡ graph_of plan one.workers one.max_leases one.parallel → h ≡ graph_of plan other.workers other.max_leases other.parallel → SameTasks g h
of_plan plan one other g h e f = rw e (rw f (record {
  tasks = tasks_same (task_lock (all_projects_lock plan one.parallel) one.parallel) (task_lock (all_projects_lock plan other.parallel) other.parallel) 0 plan.tasks;
  actions = refl;
}))

module _ (g h : GraphView) (same : SameTasks g h) (v w : ℕ → Outcome) (values : (u : ℕ) → v u ≡ w u) where
  action_same : (a : ℕ) → action_passes g v a ≡ action_passes h w a
  action_same a = ap (λ (as' : List GraphAction). list_all (λ u. passes (v u)) (range_with_len (slice_index_or as' a no_action).first_unit (units_in (slice_index_or as' a no_action)))) same.actions
      ∙ all_same (λ u. passes (v u)) (λ u. passes (w u)) (units_of h a) (λ u. ap passes (values u))

  task_same : (t : ℕ) → task_passes g v t ≡ task_passes h w t
  task_same t =
      let of_t = same.tasks t in
      ap (λ n. list_all (action_passes g v) (range_with_len n (task_of g t).actions)) of_t.first
      ∙ ap (λ n. list_all (action_passes g v) (range_with_len (task_of h t).first_action n)) of_t.actions
      ∙ all_same (action_passes g v) (action_passes h w) (actions_of h t) action_same

  mark_same : (n t : ℕ) → task_outcome g v n t ≡ task_outcome h w n t
  mark_same zero t = refl
  mark_same (suc n) t =
      ap (λ b. mark_by b (task_passes g v t))
      (ap (list_all (λ p. has_passed (task_outcome g v n p))) (same.tasks t).after
      ∙ all_same (λ p. has_passed (task_outcome g v n p)) (λ p. has_passed (task_outcome h w n p)) (task_of h t).after (λ p. ap has_passed (mark_same n p)))
      ∙ ap (mark_by (list_all (λ p. has_passed (task_outcome h w n p)) (task_of h t).after)) (task_same t)

  earlier_same : (t a : ℕ) → earlier_pass g v t a ≡ earlier_pass h w t a
  earlier_same t a = ap (λ n. list_all (action_passes g v) (range_with_len n (a - n))) (same.tasks t).first ∙ all_same (action_passes g v) (action_passes h w) (range_with_len (task_of h t).first_action (a - (task_of h t).first_action)) action_same

  unit_same : (n t a u : ℕ) → unit_outcome g v n t a u ≡ unit_outcome h w n t a u
  unit_same n t a u =
      ap (λ m. if is_skipped m then outcomes.Skipped else if earlier_pass g v t a then v u else outcomes.Skipped) (mark_same n t)
      ∙ ap (λ b. if is_skipped (task_outcome h w n t) then outcomes.Skipped else if b then v u else outcomes.Skipped) (earlier_same t a)
      ∙ ap (λ o. if is_skipped (task_outcome h w n t) then outcomes.Skipped else if earlier_pass h w t a then o else outcomes.Skipped) (values u)

  by_number_same : (n u : ℕ) → outcome_by g v n u ≡ outcome_by h w n u
  by_number_same n u = ap (λ (as' : List GraphAction). unit_outcome g v n (slice_index_or as' (first_with (has_unit u) 0 as') no_action).task (first_with (has_unit u) 0 as') u) same.actions
      ∙ unit_same n _ (action_with h u) u

  all_pass_same : (plan : PlanView) → length g.tasks ≡ length h.tasks → all_pass plan g v ≡ all_pass plan h w
  all_pass_same plan lengths = ap (λ n. list_all (λ t. has_passed (task_outcome g v (depth plan) t)) (range_with_len 0 n)) lengths
      ∙ all_same (λ t. has_passed (task_outcome g v (depth plan) t)) (λ t. has_passed (task_outcome h w (depth plan) t)) (range_with_len 0 (length h.tasks)) (λ t. ap has_passed (mark_same (depth plan) t))

-- ---- the law

pub same_results : UnitsByNumber → ByNumber results_text → ByNumber summary_text → (plan : PlanView) (one other : RunOptions) (files : Folder) (before after before' after' : ℕ → DeskView) (b c : BookView)
    → known_by one.workers before ≡ Some files → known_by other.workers before' ≡ Some files → IsRunOf plan one before after b → IsRunOf plan other before' after' c → Fits b.graph → Fits c.graph → HasNoTrouble b.history → HasNoTrouble c.history → HaveSameResults plan b c
same_results units results summary plan one other files before after before' after' b c known known' run again fits fits' fine fine' =
    let v = answers (unit_value plan files) b.history in
    let w = answers (unit_value plan files) c.history in
    let values : (u : ℕ) → v u ≡ w u = λ u. own_answer (closings b.history u) (unit_value plan files u) (fine u) ∙ sym (own_answer (closings c.history u) (unit_value plan files u) (fine' u)) in
    let same = of_plan plan one other b.graph c.graph run.graph again.graph in
    let few = ap (λ (o : GraphView). length o.tasks) run.graph ∙ tasks_in_plan plan one.parallel in
    let few' = ap (λ (o : GraphView). length o.tasks) again.graph ∙ tasks_in_plan plan other.parallel in
    let marks : (t : ℕ) → t < length plan.tasks → task_marks b.state t ≡ task_marks c.state t = λ t lt.
    task_mark plan one before after b run (Some files) known t (omega (arith, few, lt))
    ∙ mark_same b.graph c.graph same v w values (depth plan) t
    ∙ sym (task_mark plan other before' after' c again (Some files) known' t (omega (arith, few', lt))) in
    let gave : (u : ℕ) → u < length (plan_units plan) → outcome_in b.history u ≡ outcome_in c.history u = λ u lt.
    units b.graph b.history v (depth plan) u fits (comes_to_known plan one before after b run (Some files) known) (omega (arith, lt, ap (λ (o : GraphView). o.units) run.graph))
    ∙ by_number_same b.graph c.graph same v w values (depth plan) u
    ∙ sym (units c.graph c.history w (depth plan) u fits' (comes_to_known plan other before' after' c again (Some files) known') (omega (arith, lt, ap (λ (o : GraphView). o.units) again.graph))) in
    record {
      results = results plan (task_marks b.state) (task_marks c.state) (outcome_in b.history) (outcome_in c.history) marks gave;
      summary = summary plan (task_marks b.state) (task_marks c.state) (outcome_in b.history) (outcome_in c.history) marks gave;
      passed = same_pass plan one before after b run (Some files) known
          ∙ all_pass_same b.graph c.graph same v w values plan (few ∙ sym few')
          ∙ sym (same_pass plan other before' after' c again (Some files) known');
    }
