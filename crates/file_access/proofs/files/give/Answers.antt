use Rattle.std.proofs.Common.{subst, sym}
use Rattle.file_access.specs.ReadView.{IsAnswer}
use Rattle.file_access.proofs.Answering.{is_answer}
use Rattle.file_access.proofs.files.give.Goals as goal

pub returns-clause-answer : goal.returns-clause-answer
returns-clause-answer c = subst IsAnswer (sym c.act.ensures) (is_answer c.args.action.now c.args.bytes.now)
