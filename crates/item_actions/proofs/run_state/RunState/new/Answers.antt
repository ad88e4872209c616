use Rattle.std.proofs.Common.{refl}
use Rattle.item_actions.specs.Runs.{longest_after, last_run}
use Rattle.item_actions.proofs.run_state.RunState.new.Goals as goal

pub returns : goal.returns
unfolding longest_after last_run
returns c = record { longest = refl; last = refl }
