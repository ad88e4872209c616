use Rattle.command_answers.proofs.PlansOwn.{same_results}
use Rattle.command_answers.proofs.laws.results_are_the_plans_own.Goals as goal

pub returns : goal.returns
returns c = same_results c.outcomes_go_by_number.ensures c.results_go_by_number.ensures.results c.results_go_by_number.ensures.summary
