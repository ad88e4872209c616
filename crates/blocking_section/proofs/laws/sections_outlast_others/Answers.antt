use Rattle.blocking_section.proofs.lemmas.Stays.{given_back_stays}
use Rattle.blocking_section.proofs.laws.sections_outlast_others.Goals as goal

pub returns : goal.returns
returns c = given_back_stays
