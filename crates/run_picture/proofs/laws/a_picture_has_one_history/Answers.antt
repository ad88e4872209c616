use Rattle.run_picture.proofs.Different.{one_history}
use Rattle.run_picture.proofs.laws.a_picture_has_one_history.Goals as goal

pub returns : goal.returns
returns c = one_history
