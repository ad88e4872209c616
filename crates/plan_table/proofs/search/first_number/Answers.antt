use Rattle.std.proofs.Common.{◌∙◌, sym}
use Rattle.plan_table.proofs.lemmas.Lists.{position_of_elements}
use Rattle.plan_table.proofs.search.first_number.Goals as goal

pub returns : goal.returns
returns g c = c.position_in.ensures ∙ sym (position_of_elements (g.T.PlaceTest.test c.args.test.now c.args.part) _ _ c.places.ensures)
