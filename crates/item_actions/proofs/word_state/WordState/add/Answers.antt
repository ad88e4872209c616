use Rattle.item_actions.proofs.Words.{words_added}
use Rattle.item_actions.proofs.word_state.WordState.add.Goals as goal

pub returns : goal.returns
returns c = λ bytes fits h. words_added _ _ bytes c.args.piece.now _ _ _ fits c.begun_in-begun.ensures c.saturating_add-self.ensures c.can_begin_behind-self.ensures h
