-- A lemma.
use Rattle.plan_table.proofs.lemmas.FirstPlaces.{is_first_place}
use Rattle.plan_table.proofs.laws.the_first_place_is_told.Goals as goal

pub returns : goal.returns
returns c = is_first_place
