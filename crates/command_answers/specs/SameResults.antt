-- Runs of one plan give the same results.
use Rattle.std.specs.Prelude.{ℕ, ◌≡◌, ◌≢◌, List}
use Rattle.std.specs.List.{AllByRecursion}
use Rattle.item_actions.specs.declared.outcomes.Outcome.TheVariants.{Fault, NoMemory}
use Rattle.lock_journal.specs.Names.{BookView, closings, outcome_in, Entry}
use Rattle.plan_reader.specs.PlanView.{PlanView}
use Rattle.history_text.specs.Results.{results_text, summary_text, task_marks}
use Rattle.command_answers.specs.Answered.{have_all_passed}

-- no entry closed a unit with Fault or NoMemory
abbrev pub HasNoTrouble : List Entry → Type 0
HasNoTrouble h = (u : ℕ) → AllByRecursion (λ o. (o ≢ Fault) × (o ≢ NoMemory)) (closings h u)

-- what is printed of the results, whole or as their summary, and whether all tasks passed, which is the status
pub record HaveSameResults (plan : PlanView) (b c : BookView) : Type 0 where
  pub results : results_text plan (task_marks b.state) (outcome_in b.history) ≡ results_text plan (task_marks c.state) (outcome_in c.history)
  pub summary : summary_text plan (task_marks b.state) (outcome_in b.history) ≡ summary_text plan (task_marks c.state) (outcome_in c.history)
  pub passed : have_all_passed b ≡ have_all_passed c
