-- The report of a run by the book is that by the plan.
use Rattle.std.proofs.Common.{◌≡◌, ◌≢◌, ◌⊎◌, inl, inr, ℕ, zero, suc, ◌+◌, ◌<◌, Bool, true, false, ◌&&◌, List, [], ◌∷◌, ◌++◌, length, Option, Some, None, refl, sym, ◌∙◌, ap, subst, arith}
use Rattle.std.specs.Prelude.{if◌then◌else◌}
use Rattle.std.specs.List.{list_all, range_with_len}
use Rattle.item_actions.specs.Files.{Folder}
use Rattle.item_actions.specs.declared.outcomes.Outcome.{Outcome}
use Rattle.item_actions.specs.declared.outcomes.Outcome.TheVariants as outcomes
use Rattle.lock_journal.specs.Names.{Fits, GraphView, StateView, mark_of, Mark, TaskOf, last_or, outcome_in, Entry, BookView, has_passed, LockId}
use Rattle.lock_journal.specs.Names.{outcome_by, task_outcome, ComesTo}
use Rattle.plan_reader.specs.Graph.{all_projects_lock, task_lock, tasks_from}
use Rattle.plan_reader.specs.PlanView.{PlanTaskView, PlanView}
use Rattle.plan_reader.specs.Units.{plan_units}
use Rattle.daemon_manager.specs.declared.events.Event.{Event}
use Rattle.run_watch.specs.declared.boards.Watch.{Watch}
use Rattle.build_workers.specs.RunDesks.{known_by}
use Rattle.build_workers.specs.Desks.{DeskView}
use Rattle.build_workers.specs.Run.{HasResults, IsRunOf, depth}
use Rattle.build_workers.specs.declared.options.RunOptions.{RunOptions}
use Rattle.command_words.specs.declared.commands.RunWords.{RunWords}
use Rattle.history_text.specs.Results.{results_text, summary_text, task_marks}
use Rattle.file_access.specs.SinkView.{SinkView, Wrote}
use Rattle.file_access.proofs.lemmas.Printing.{wrote_nothing}
use Rattle.command_answers.specs.Around.{Call}
use Rattle.command_answers.specs.Causes.{IsFileCause, OrNoMemory}
use Rattle.command_answers.specs.Answered.{EndedWith, IsNamedRun, RunAnswered, RunBrokenOff, RunEnded, SentNothing, all_pass, behind_results, have_all_passed, known_files, run_text, text_by_book, values_or_closings}
use Rattle.command_answers.specs.Reported.{IsReported}
use Rattle.command_answers.specs.Told.{IsToldAs, IsRefusedFor}
use Rattle.command_answers.specs.declared.status.Status.{Status}
use Rattle.command_answers.specs.declared.status.Status.TheVariants.{Passed, TaskFailed, BadWords, BadPlan, NoPlan, PlanFault, SinkFault, BadFrame, SourceFault, NotLawful, Differs, FileFault, NoMemory}

-- what the laws say that are called
abbrev pub UnitsByNumber : Type 0
UnitsByNumber = (g : GraphView) (h : List Entry) (v : ℕ → Outcome) (n u : ℕ) → Fits g → ComesTo g h v n → u < g.units → outcome_in h u ≡ outcome_by g v n u

-- a text of the results goes by number
abbrev pub ByNumber : (PlanView → (ℕ → Mark) → (ℕ → Outcome) → List ℕ) → Type 0
ByNumber text = (p : PlanView) (marks marks' : ℕ → Mark) (outcomes outcomes' : ℕ → Outcome) → ((t : ℕ) → t < length p.tasks → marks t ≡ marks' t) → ((u : ℕ) → u < length (plan_units p) → outcomes u ≡ outcomes' u) → text p marks outcomes ≡ text p marks' outcomes'

either_by_number : (summary : Bool) → ByNumber results_text → ByNumber summary_text → ByNumber (if summary then summary_text else results_text)
either_by_number true results summary = summary
either_by_number false results summary = results

pub tasks_in_all : (lock : PlanTaskView → LockId) (first : ℕ) (ts : List PlanTaskView) → length (tasks_from lock first ts) ≡ length ts
tasks_in_all lock first [] = refl
tasks_in_all lock first (t ∷ ts) = ap suc (tasks_in_all lock (first + length t.actions) ts)

pub tasks_in_plan : (plan : PlanView) (parallel : Bool) → length (tasks_from (task_lock (all_projects_lock plan parallel) parallel) 0 plan.tasks) ≡ length plan.tasks
tasks_in_plan plan parallel = tasks_in_all (task_lock (all_projects_lock plan parallel) parallel) 0 plan.tasks

same_on_range : (f g : ℕ → Bool) (first n : ℕ) → ((t : ℕ) → t < first + n → f t ≡ g t) → list_all f (range_with_len first n) ≡ list_all g (range_with_len first n)
same_on_range f g first zero h = refl
same_on_range f g first (suc n) h = rw (h first (omega arith)) (ap (λ b. g first && b) (same_on_range f g (first + 1) n (λ t lt. h t (omega arith))))

-- the results, by the values that are printed
pub comes_to : (plan : PlanView) (known : Option Folder) (b : BookView) → HasResults plan known b → ComesTo b.graph b.history (values_or_closings plan known b.history) (depth plan)
comes_to plan (Some files) b results = results
comes_to plan None b results = results (outcome_in b.history) (λ u o e. ap (last_or outcomes.Skipped) e)

module _ (plan : PlanView) (options : RunOptions) (before after : ℕ → DeskView) (b : BookView) (run : IsRunOf plan options before after b) where
  pub tasks_in_graph : length b.graph.tasks ≡ length plan.tasks
  tasks_in_graph = ap (λ (o : GraphView). length o.tasks) run.graph ∙ tasks_in_plan plan options.parallel

  module _ (known : Option Folder) (is : known_by options.workers before ≡ known) where
    pub comes_to_known : ComesTo b.graph b.history (values_or_closings plan known b.history) (depth plan)
    comes_to_known = comes_to plan known b (subst (λ (o : Option Folder). HasResults plan o b) is run.results)

    pub task_mark : (t : ℕ) → t < length b.graph.tasks → mark_of b.state (TaskOf t) ≡ task_outcome b.graph (values_or_closings plan known b.history) (depth plan) t
    task_mark t lt = ap (λ (s : StateView). mark_of s (TaskOf t)) run.replays ∙ comes_to_known.tasks t lt

    pub same_pass : have_all_passed b ≡ all_pass plan b.graph (values_or_closings plan known b.history)
    same_pass =
        same_on_range (λ t. has_passed (mark_of b.state (TaskOf t))) (λ t. has_passed (task_outcome b.graph (values_or_closings plan known b.history) (depth plan) t)) 0 (length b.graph.tasks)
        (λ t lt. ap has_passed (task_mark t (omega arith)))

    pub same_text : (asked : RunWords) (events : List Event) (watch : List Watch) → UnitsByNumber → ByNumber results_text → ByNumber summary_text → Fits b.graph
        → text_by_book asked plan b events watch ≡ run_text asked plan known b events watch
    same_text asked events watch units results summary fits =
        let v = values_or_closings plan known b.history in
        ap (λ text. text ++ behind_results asked b events watch)
        (either_by_number asked.summary results summary plan (task_marks b.state) (task_outcome b.graph v (depth plan)) (outcome_in b.history) (outcome_by b.graph v (depth plan))
        (λ t lt. task_mark t (omega (arith, tasks_in_graph)))
        (λ u lt. units b.graph b.history v (depth plan) u fits comes_to_known (omega (arith, ap (λ (o : GraphView). o.units) run.graph))))

-- what was reported of a run is its answer
pub reported_answers : (asked : RunWords) (c : Call) (plan : PlanView) (b : BookView) → c.book ≡ Some b → IsNamedRun asked c plan b
    → IsReported (all_pass plan b.graph (values_or_closings plan (known_files asked c) b.history)) c.before.sink c.after.sink (run_text asked plan (known_files asked c) b c.events c.watch) c.status → RunAnswered asked c
reported_answers asked c plan b e run reported = subst (EndedWith asked c) (sym e) (by_status c.status reported)
  where
    by_status : (s : Status) → IsReported (all_pass plan b.graph (values_or_closings plan (known_files asked c) b.history)) c.before.sink c.after.sink (run_text asked plan (known_files asked c) b c.events c.watch) s → RunEnded asked c b s
    by_status Passed r = (plan, run, r)
    by_status TaskFailed r = (plan, run, r)
    by_status SinkFault r = (plan, run, r)
    by_status BadWords r = absurd r
    by_status (BadPlan refusal) r = absurd r
    by_status NoPlan r = absurd r
    by_status PlanFault r = absurd r
    by_status (BadFrame place) r = absurd r
    by_status SourceFault r = absurd r
    by_status (NotLawful n) r = absurd r
    by_status (Differs n) r = absurd r
    by_status (FileFault u) r = absurd r
    by_status NoMemory r = absurd r

no_memory_or : (P : Type 0) (refusal : Status) → OrNoMemory P refusal → (refusal ≡ NoMemory) ⊎ ((refusal ≢ NoMemory) × P)
no_memory_or P NoMemory cause = inl refl
no_memory_or P Passed cause = inr ((λ e. cc e), cause)
no_memory_or P TaskFailed cause = inr ((λ e. cc e), cause)
no_memory_or P BadWords cause = inr ((λ e. cc e), cause)
no_memory_or P (BadPlan refusal) cause = inr ((λ e. cc e), cause)
no_memory_or P NoPlan cause = inr ((λ e. cc e), cause)
no_memory_or P PlanFault cause = inr ((λ e. cc e), cause)
no_memory_or P SinkFault cause = inr ((λ e. cc e), cause)
no_memory_or P (BadFrame place) cause = inr ((λ e. cc e), cause)
no_memory_or P SourceFault cause = inr ((λ e. cc e), cause)
no_memory_or P (NotLawful n) cause = inr ((λ e. cc e), cause)
no_memory_or P (Differs n) cause = inr ((λ e. cc e), cause)
no_memory_or P (FileFault u) cause = inr ((λ e. cc e), cause)

-- a refusal that was told but for want of memory has its cause
pub refused_for : (IsCause : Status → Type 0) (old new : SinkView) (refusal status : Status) → (refusal ≡ NoMemory → (status ≡ NoMemory) × (new ≡ old)) → (refusal ≢ NoMemory → IsToldAs refusal old new status)
    → OrNoMemory (IsCause refusal) refusal → IsRefusedFor IsCause old new status
refused_for IsCause old new refusal status memory told cause =
    elim (no_memory_or (IsCause refusal) refusal cause) [
      | inl lacking ↦ inl ((memory lacking).0, subst (λ (s : SinkView). Wrote old s []) (sym (memory lacking).1) (wrote_nothing old))
      | inr caused ↦ inr (refusal, caused.1, told caused.0)
    ]

-- a refusal of the plan that was told is the answer
pub refusal_answers : (asked : RunWords) (c : Call) (refusal : Status) → c.book ≡ None → (refusal ≡ NoMemory → (c.status ≡ NoMemory) × (c.after.sink ≡ c.before.sink)) → (refusal ≢ NoMemory → IsToldAs refusal c.before.sink c.after.sink c.status)
    → OrNoMemory (IsFileCause (c.before.desks 0).files (c.before.desks 0).faults (c.after.desks 0).faults asked.plan refusal) refusal → SentNothing c → RunAnswered asked c
refusal_answers asked c refusal without memory told cause unsent =
    subst (EndedWith asked c) (sym without) (record {
      refused = refused_for (IsFileCause (c.before.desks 0).files (c.before.desks 0).faults (c.after.desks 0).faults asked.plan) c.before.sink c.after.sink refusal c.status memory told cause;
      sent = inl unsent;
    })

-- a run that was broken off, with nothing printed
pub broken_answers : (asked : RunWords) (c : Call) → c.book ≡ None → c.status ≡ NoMemory → c.after.sink ≡ c.before.sink → RunBrokenOff asked c → RunAnswered asked c
broken_answers asked c without memory same broken =
    subst (EndedWith asked c) (sym without) (record {
      refused = inl (memory, subst (λ (s : SinkView). Wrote c.before.sink s []) (sym same) (wrote_nothing c.before.sink));
      sent = inr broken;
    })
