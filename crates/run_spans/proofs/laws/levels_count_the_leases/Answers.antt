use Rattle.run_spans.proofs.Counted.{levels_are_leases}
use Rattle.run_spans.proofs.laws.levels_count_the_leases.Goals as goal

pub returns : goal.returns
returns c = levels_are_leases
