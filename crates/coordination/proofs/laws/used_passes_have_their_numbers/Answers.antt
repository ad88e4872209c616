use Rattle.coordination.proofs.lemmas.Numbered.{same_numbers}
use Rattle.coordination.proofs.laws.used_passes_have_their_numbers.Goals as goal

pub returns : goal.returns
returns c = same_numbers
