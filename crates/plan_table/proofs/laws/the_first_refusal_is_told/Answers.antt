-- A lemma.
use Rattle.plan_table.proofs.lemmas.FirstLaws.{is_first_refusal}
use Rattle.plan_table.proofs.laws.the_first_refusal_is_told.Goals as goal

pub returns : goal.returns
returns c = is_first_refusal
