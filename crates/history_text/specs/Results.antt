-- The results text: each task with its units, and three lines of summary. Marks and outcomes go by number.
use Rattle.std.specs.Prelude.{ℕ, ◌+◌, List, [], ◌∷◌, ◌++◌, length, map, codes, decimal, Option, None, Some, Bool, true, false}
use Rattle.std.specs.List.{flat_map, count_by, sum_by, range_with_len}
use Rattle.item_actions.specs.Value.{passes}
use Rattle.item_actions.specs.Words.{action_word, kind_of_action, kind_of_outcome, outcome_phrase}
use Rattle.item_actions.specs.declared.actions.ItemAction.{ItemAction}
use Rattle.item_actions.specs.declared.outcomes.Outcome.{Outcome}
use Rattle.item_actions.specs.declared.outcomes.Outcome.TheVariants as outcomes
use Rattle.lock_journal.specs.Names.{Mark, Failed, Skipped, TaskOf, StateView, mark_of, has_passed}
use Rattle.plan_reader.specs.PlanView.{PlanTaskView, PlanView}
use Rattle.plan_reader.specs.Units.{PlannedUnit, task_units, plan_units}
use Rattle.history_text.specs.Text.{mark_text, hex_text, numbered}
use Rattle.history_text.specs.declared.counts.Counts.{Counts}

-- the marks of a state's tasks
abbrev pub task_marks : StateView → ℕ → Mark
task_marks s t = mark_of s (TaskOf t)

abbrev pub value_text : Outcome → List ℕ
value_text (outcomes.Number n) = decimal n
value_text (outcomes.Digest bytes) = flat_map hex_text bytes
value_text o = outcome_phrase (kind_of_outcome o)

abbrev pub unit_word : Option ItemAction → List ℕ
unit_word None = codes "fetch"
unit_word (Some action) = action_word (kind_of_action action)

-- the line of a unit, by its word, file and outcome
abbrev pub unit_line : List ℕ → List ℕ → Outcome → List ℕ
unit_line word file o = codes "  " ++ word ++ codes " " ++ file ++ codes " " ++ value_text o ++ codes "\n"

abbrev pub unit_text : (ℕ → Outcome) → ℕ → PlannedUnit → List ℕ
unit_text outcomes n u = unit_line (unit_word u.action) u.file (outcomes n)

-- the line of a task, by its name and mark
abbrev pub task_line : List ℕ → Mark → List ℕ
task_line name mark = codes "task " ++ name ++ codes " " ++ mark_text mark ++ codes "\n"

-- task t, and its units, which are numbered from u on
abbrev pub task_text : (ℕ → Mark) → (ℕ → Outcome) → ℕ → ℕ → PlanTaskView → List ℕ
task_text marks outcomes t u task = task_line task.name (marks t) ++ numbered (unit_text outcomes) u (task_units task)

-- tasks numbered from t on, and their units, numbered through from u on
abbrev pub tasks_text : (ℕ → Mark) → (ℕ → Outcome) → ℕ → ℕ → List PlanTaskView → List ℕ
tasks_text marks outcomes t u [] = []
tasks_text marks outcomes t u (task ∷ tasks) = task_text marks outcomes t u task ++ tasks_text marks outcomes (t + 1) (u + length (task_units task)) tasks

abbrev pub has_failed : Mark → Bool
has_failed Failed = true
has_failed _ = false

abbrev pub is_skipped : Mark → Bool
is_skipped Skipped = true
is_skipped _ = false

abbrev pub fails : Outcome → Bool
fails outcomes.NotThere = true
fails outcomes.TooLong = true
fails outcomes.Fault = true
fails outcomes.NoMemory = true
fails _ = false

abbrev pub was_skipped : Outcome → Bool
was_skipped outcomes.Skipped = true
was_skipped _ = false

abbrev pub number_in : Outcome → ℕ
number_in (outcomes.Number n) = n
number_in _ = 0

-- how many of the tasks with these marks passed, failed and were skipped
abbrev pub task_counts : List Mark → Counts
task_counts ms = record { passed = count_by has_passed ms; failed = count_by has_failed ms; skipped = count_by is_skipped ms }

abbrev pub unit_counts : List Outcome → Counts
unit_counts os = record { passed = count_by passes os; failed = count_by fails os; skipped = count_by was_skipped os }

abbrev pub counts_text : Counts → List ℕ
counts_text c = decimal c.passed ++ codes " passed, " ++ decimal c.failed ++ codes " failed, " ++ decimal c.skipped ++ codes " skipped\n"

-- three lines: the tasks, the units, and the sum of the Number outcomes
abbrev pub summary_of : List Mark → List Outcome → List ℕ
summary_of ms os =
    codes "tasks: " ++ counts_text (task_counts ms)
    ++ codes "units: " ++ counts_text (unit_counts os)
    ++ codes "total: " ++ decimal (sum_by number_in os) ++ codes "\n"

-- the values at the numbers below n
abbrev pub below : {X : Type 0} → ℕ → (ℕ → X) → List X
below n f = map f (range_with_len 0 n)

abbrev pub summary_text : PlanView → (ℕ → Mark) → (ℕ → Outcome) → List ℕ
summary_text p marks outcomes = summary_of (below (length p.tasks) marks) (below (length (plan_units p)) outcomes)

abbrev pub results_text : PlanView → (ℕ → Mark) → (ℕ → Outcome) → List ℕ
results_text p marks outcomes = tasks_text marks outcomes 0 0 p.tasks ++ summary_text p marks outcomes
