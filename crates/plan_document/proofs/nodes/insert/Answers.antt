use Rattle.std.proofs.Common.{arith}
use Rattle.std.proofs.lemmas.Grind.{common_steps}
use Rattle.plan_document.proofs.Slots.{inserted}
use Rattle.plan_document.proofs.nodes.insert.Goals as goal

pub returns : goal.returns
returns c = grind (arith, common_steps, inserted)
