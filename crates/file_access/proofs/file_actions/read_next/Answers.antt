use Rattle.std.proofs.lemmas.Result.{on_ok_weaker}
use Rattle.file_access.proofs.Answering.{kept_then}
use Rattle.file_access.proofs.file_actions.read_next.Goals as goal

pub returns-in_default-2-clause-taken : goal.returns-in_default-2-clause-taken
returns-in_default-2-clause-taken g c = on_ok_weaker c.read_piece.result (λ taken. kept_then _ _ _ _ c.again.invariant taken) c.read_piece.ensures.taken
