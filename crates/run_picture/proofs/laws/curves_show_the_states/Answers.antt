use Rattle.run_picture.proofs.Curves.{curves_are_shown}
use Rattle.run_picture.proofs.laws.curves_show_the_states.Goals as goal

pub returns : goal.returns
returns c = curves_are_shown
