use Rattle.std.proofs.Common.{◌∙◌, sym}
use Rattle.item_actions.proofs.Words.{whole_words}
use Rattle.item_actions.proofs.word_state.WordState.number.Goals as goal

pub returns : goal.returns
returns c = λ bytes h. h.begun ∙ sym (whole_words bytes)
