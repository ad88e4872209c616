use Rattle.run_spans.proofs.Queued.{levels_are_queued}
use Rattle.run_spans.proofs.laws.levels_count_the_queued_units.Goals as goal

pub returns : goal.returns
returns c = levels_are_queued
