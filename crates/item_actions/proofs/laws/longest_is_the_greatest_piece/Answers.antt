use Rattle.item_actions.proofs.Greatest.{one_of_them, none_longer}
use Rattle.item_actions.proofs.laws.longest_is_the_greatest_piece.Goals as goal

pub returns : goal.returns
returns c = record { one_of_them = one_of_them; none_longer = none_longer }
