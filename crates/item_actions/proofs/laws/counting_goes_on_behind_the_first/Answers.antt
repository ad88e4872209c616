use Rattle.item_actions.proofs.Behind.{nowhere, first}
use Rattle.item_actions.proofs.laws.counting_goes_on_behind_the_first.Goals as goal

pub returns : goal.returns
returns c = record { nowhere = nowhere; first = first }
