use Rattle.run_picture.proofs.Showing.{states_are_shown}
use Rattle.run_picture.proofs.laws.bars_show_the_states.Goals as goal

pub returns : goal.returns
returns c = states_are_shown
