-- What a call answers, and why.
use Rattle.std.specs.Prelude.{ℕ, ◌≡◌, ◌+◌, ◌≤◌, ◌⊎◌, Bool, true, false, if◌then◌else◌, List, [], ◌++◌, length}
use Rattle.std.specs.Prelude.{sum_by, Option, None, Some, Box}
use Rattle.std.specs.List.{list_all, range_with_len}
use Rattle.std.specs.declared.alloc.Global.{Global}
use Rattle.item_actions.specs.Files.{Folder}
use Rattle.item_actions.specs.declared.outcomes.Outcome.{Outcome}
use Rattle.lock_journal.specs.Names.{GraphView, mark_of, Mark, TaskOf, outcome_in, BookView, Entry, has_passed, answers, outcome_by, task_outcome}
use Rattle.file_access.specs.SinkView.{Wrote, Broke}
use Rattle.plan_reader.specs.PlanView.{PlanView}
use Rattle.plan_reader.specs.Units.{plan_units, unit_value}
use Rattle.daemon_manager.specs.Asking.{AreAskedFor}
use Rattle.daemon_manager.specs.Counts.{failures, reservations}
use Rattle.daemon_manager.specs.Events.{IsLegal, NoneIdle}
use Rattle.daemon_manager.specs.declared.events.Event.{Event}
use Rattle.run_watch.specs.declared.boards.Watch.{Watch}
use Rattle.build_workers.specs.RunDesks.{known_by}
use Rattle.build_workers.specs.Desks.{DeskView}
use Rattle.build_workers.specs.Units.{AsksFor}
use Rattle.build_workers.specs.RunFailing.{unreal_of}
use Rattle.build_workers.specs.Run.{IsRunOf, WasBrokenOff, depth}
use Rattle.build_workers.specs.declared.options.RunOptions.{RunOptions}
use Rattle.history_text.specs.Events.{events_text}
use Rattle.command_answers.specs.Watches.{watches_text}
use Rattle.build_workers.specs.RunWatching.{IsWatchedRun}
use Rattle.history_text.specs.Text.{history_text}
use Rattle.history_text.specs.Results.{results_text, summary_text, task_marks}
use Rattle.command_words.specs.declared.commands.Command.{Command}
use Rattle.command_words.specs.declared.commands.Command.TheVariants.{Run, Worker, Check, Again, Make}
use Rattle.command_words.specs.declared.commands.RunWords.{RunWords}
use Rattle.command_answers.specs.Around.{Around, Call, at_first_desk}
use Rattle.command_answers.specs.Causes.{IsFileOf, IsFileCause}
use Rattle.command_answers.specs.Told.{IsRefusedFor}
use Rattle.command_answers.specs.Worker.{HasWorked}
use Rattle.command_answers.specs.Check.{HasCheckedHistory}
use Rattle.command_answers.specs.Again.{HasDrivenHistory}
use Rattle.command_answers.specs.Make.{MakeAnswered}
use Rattle.command_answers.specs.declared.status.Status.{Status}
use Rattle.command_answers.specs.declared.ended.Ended.{Ended}
use Rattle.command_answers.specs.declared.status.Status.TheVariants.{Passed, TaskFailed, BadWords, SinkFault}

abbrev pub options_of : RunWords → RunOptions
options_of run = record { workers = run.threads; max_leases = run.max_leases; parallel = run.parallel; watch = run.watch }

-- how many requests the first n desks have sent
abbrev pub sent_by_first : ℕ → (ℕ → DeskView) → ℕ
sent_by_first n desks = sum_by (λ i. (desks i).sent.count) (range_with_len 0 n)

-- The book is that of a run of this plan, which stands under the name that is asked for, with the options asked for. At least as
-- many daemons were reserved as its desks sent requests, each for an item of the plan in a process whose demand it covers, and no more
-- failed than its workers closed units as a fault or without memory.
pub record IsNamedRun (asked : RunWords) (c : Call) (plan : PlanView) (b : BookView) : Type 0 where
  pub named : IsFileOf (c.before.desks 0).files asked.plan plan
  pub run : IsRunOf plan (options_of asked) c.before.desks c.after.desks b
  pub reserved : sent_by_first asked.threads c.after.desks ≤ sent_by_first asked.threads c.before.desks + reservations c.events
  pub units : AreAskedFor (AsksFor (plan_units plan)) c.events
  pub failed : failures c.events ≤ unreal_of asked.threads b.history
  -- what the workers saw of this book, where it was asked for
  pub watch : IsWatchedRun (options_of asked) b c.watch

-- What each unit gives, for what is printed: by its file, where the files are known, but for the units that met a fault or
-- want of memory. Where they aren't known, what its closing entry says.
abbrev pub values_or_closings : PlanView → Option Folder → List Entry → ℕ → Outcome
values_or_closings plan (Some files) h = answers (unit_value plan files) h
values_or_closings plan None h = outcome_in h

-- whether every task passes, by the plan and what its units give
abbrev pub all_pass : PlanView → GraphView → (ℕ → Outcome) → Bool
all_pass plan g v = list_all (λ t. has_passed (task_outcome g v (depth plan) t)) (range_with_len 0 (length g.tasks))

-- whether every task has passed, by the book
abbrev pub have_all_passed : BookView → Bool
have_all_passed b = list_all (λ t. has_passed (mark_of b.state (TaskOf t))) (range_with_len 0 (length b.graph.tasks))

-- ---- the text that the words ask for: the results or their summary, and the history and the events where they are asked for

abbrev pub results_asked : RunWords → PlanView → (ℕ → Mark) → (ℕ → Outcome) → List ℕ
results_asked asked = if asked.summary then summary_text else results_text

abbrev pub history_asked : RunWords → BookView → List ℕ
history_asked asked b = if asked.history then history_text b.graph.workers b.graph.max_leases asked.parallel (Some b.graph.locks) b.history else []

abbrev pub events_asked : RunWords → List Event → List ℕ
events_asked asked events = if asked.daemons then events_text events else []

abbrev pub watches_asked : RunWords → List Watch → List ℕ
watches_asked asked watch = if asked.watch then watches_text watch else []

-- what follows the results
abbrev pub behind_results : RunWords → BookView → List Event → List Watch → List ℕ
behind_results asked b events watch = history_asked asked b ++ events_asked asked events ++ watches_asked asked watch

-- by the plan and what its units give
abbrev pub text_by_plan : RunWords → PlanView → (ℕ → Outcome) → BookView → List Event → List Watch → List ℕ
text_by_plan asked plan v b events watch = results_asked asked plan (task_outcome b.graph v (depth plan))
    (outcome_by b.graph v (depth plan)) ++ behind_results asked b events watch

-- the same by what the book says
abbrev pub text_by_book : RunWords → PlanView → BookView → List Event → List Watch → List ℕ
text_by_book asked plan b events watch = results_asked asked plan (task_marks b.state) (outcome_in b.history) ++ behind_results asked b events watch

abbrev pub run_text : RunWords → PlanView → Option Folder → BookView → List Event → List Watch → List ℕ
run_text asked plan known b events watch = text_by_plan asked plan (values_or_closings plan known b.history) b events watch

-- ---- the answer

-- the book of the run, if a run ended
abbrev pub book_of : Option (Box BookView Global) → Option BookView
book_of None = None
book_of (Some b) = Some b.value

-- a call with this answer
abbrev pub call_of : Around → Around → Ended → Call
call_of before after end = record {
  before = before;
  after = after;
  status = end.status;
  book = book_of end.book;
  events = end.events.items;
  watch = end.watch.items;
}

-- the events of a run that ended are legal and leave no daemon idle; where none ended there are none
abbrev pub AreEventsOf : Option BookView → List Event → Type 0
AreEventsOf (Some b) events = IsLegal events × NoneIdle events
AreEventsOf None events = events ≡ []

-- the files that the threads' desks know, where each of them knows its files
abbrev pub known_files : RunWords → Call → Option Folder
known_files asked c = known_by asked.threads c.before.desks

-- of the run of some plan this holds
abbrev pub OfRun : RunWords → Call → BookView → (PlanView → Type 0) → Type 0
OfRun asked c b P = (plan : PlanView) × IsNamedRun asked c plan b × P plan

-- whether all its tasks pass, and that its text was written
abbrev pub RunWrote : Bool → RunWords → Call → BookView → PlanView → Type 0
RunWrote passed asked c b plan = (all_pass plan b.graph (values_or_closings plan (known_files asked c) b.history) ≡ passed)
    × Wrote c.before.sink c.after.sink (run_text asked plan (known_files asked c) b c.events c.watch)

-- How a run ended.
abbrev pub RunEnded : RunWords → Call → BookView → Status → Type 0
-- every task passed, and all of the text was written
RunEnded asked c b Passed = OfRun asked c b (RunWrote true asked c b)
-- some task didn't, and all of the text was written
RunEnded asked c b TaskFailed = OfRun asked c b (RunWrote false asked c b)
-- the sink failed, and has the beginning of the text
RunEnded asked c b SinkFault = OfRun asked c b (λ plan. Broke c.before.sink c.after.sink (run_text asked plan (known_files asked c) b c.events c.watch))
RunEnded asked c b _ = ⊥

-- no desk sent anything
abbrev pub SentNothing : Call → Type 0
SentNothing c = (i : ℕ) → (c.after.desks i).sent ≡ (c.before.desks i).sent

-- the plan was read, and its run was broken off
abbrev pub RunBrokenOff : RunWords → Call → Type 0
RunBrokenOff asked c = (plan : PlanView) × IsFileOf (c.before.desks 0).files asked.plan plan
    × WasBrokenOff plan (options_of asked) c.before.desks c.after.desks

-- No run ended: there was no memory, or no plan was read through the first desk, for a cause that was written.
pub record NoRunEnded (asked : RunWords) (c : Call) : Type 0 where
  pub refused : IsRefusedFor (IsFileCause (c.before.desks 0).files (c.before.desks 0).faults (c.after.desks 0).faults asked.plan)
      c.before.sink c.after.sink c.status
  pub sent : SentNothing c ⊎ RunBrokenOff asked c

-- a run ended with this book, or none ended
abbrev pub EndedWith : RunWords → Call → Option BookView → Type 0
EndedWith asked c (Some b) = RunEnded asked c b c.status
EndedWith asked c None = NoRunEnded asked c

-- What `run` answers.
abbrev pub RunAnswered : RunWords → Call → Type 0
RunAnswered asked c = EndedWith asked c c.book

-- What a call answers, by the command, if the words are one.
abbrev pub Answered : Option Command → Call → Type 0
Answered None c = (c.book ≡ None) × IsRefusedFor (λ refusal. refusal ≡ BadWords) c.before.sink c.after.sink c.status
Answered (Some (Run asked)) c = RunAnswered asked c
Answered (Some Worker) c = (c.book ≡ None) × HasWorked (at_first_desk c.before) (at_first_desk c.after) c.status
Answered (Some (Check name)) c = (c.book ≡ None) × HasCheckedHistory name (at_first_desk c.before) (at_first_desk c.after) c.status
Answered (Some (Again name)) c = (c.book ≡ None) × HasDrivenHistory name (at_first_desk c.before) (at_first_desk c.after) c.status
Answered (Some (Make asked)) c = (c.book ≡ None) × MakeAnswered asked c.before.sink c.after.sink c.status
