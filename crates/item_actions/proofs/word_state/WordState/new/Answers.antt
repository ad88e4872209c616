use Rattle.std.proofs.Common.{refl}
use Rattle.item_actions.specs.WordPieces.{words_after, can_begin}
use Rattle.item_actions.proofs.word_state.WordState.new.Goals as goal

pub returns : goal.returns
unfolding words_after can_begin
returns c = record { begun = refl; can = refl }
