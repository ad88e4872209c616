use Rattle.run_spans.proofs.Keys.{one_key}
use Rattle.run_spans.proofs.Standing.{covered_in_state, state_is_covered}
use Rattle.run_spans.proofs.laws.spans_are_those_of_the_states.Goals as goal

pub returns : goal.returns
returns c = record { covered = covered_in_state; holds = state_is_covered; own_key = one_key }
