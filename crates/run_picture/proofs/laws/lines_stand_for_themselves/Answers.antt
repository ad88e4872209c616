use Rattle.run_picture.proofs.Plain.{line_plain}
use Rattle.run_picture.proofs.laws.lines_stand_for_themselves.Goals as goal

pub returns : goal.returns
returns c = line_plain
