use Rattle.std.proofs.Common.{subst}
use Rattle.item_actions.specs.States.{IsStateOf}
use Rattle.item_actions.proofs.PieceStates.{needles_give, runs_give, words_give}
use Rattle.item_actions.proofs.piece_state.PieceState.outcome.Goals as goal

pub returns-in-Words : goal.returns-in-Words
returns-in-Words c = λ action bytes h. words_give c.in-Words.words c.number.result c.number.ensures action bytes (subst (λ s. IsStateOf s action bytes) c.in-Words.is h)

pub returns-in-Longest : goal.returns-in-Longest
returns-in-Longest c = λ action bytes h. runs_give c.in-Longest.runs c.number-in-Longest.result c.number-in-Longest.ensures action bytes (subst (λ s. IsStateOf s action bytes) c.in-Longest.is h)

pub returns-in-Count : goal.returns-in-Count
returns-in-Count c = λ action bytes h. needles_give c.in-Count.needles c.number-in-Count.result c.number-in-Count.ensures action bytes (subst (λ s. IsStateOf s action bytes) c.in-Count.is h)
