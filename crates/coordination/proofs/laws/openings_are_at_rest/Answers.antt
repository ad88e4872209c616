use Rattle.coordination.proofs.Opening.{rests}
use Rattle.coordination.proofs.laws.openings_are_at_rest.Goals as goal

pub returns : goal.returns
returns c = rests
