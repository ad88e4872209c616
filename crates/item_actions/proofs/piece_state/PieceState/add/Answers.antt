use Rattle.std.proofs.Common.{subst}
use Rattle.item_actions.specs.States.{IsStateOf}
use Rattle.item_actions.proofs.PieceStates.{needles_more}
use Rattle.item_actions.proofs.piece_state.PieceState.add.Goals as goal

pub returns-in-Count : goal.returns-in-Count
returns-in-Count c = λ action bytes fits h.
    needles_more c.in-Count.needles c.add-in-Count.new.self c.args.piece.now c.add-in-Count.ensures action bytes fits (subst (λ s. IsStateOf s action bytes) c.in-Count.is h)
