use Rattle.history_text.proofs.Agreeing.{results_same, summary_same}
use Rattle.history_text.proofs.laws.results_go_by_number.Goals as goal

pub returns : goal.returns
returns c = record { results = results_same; summary = summary_same }
