use Rattle.std.proofs.lemmas.Result.{IfOk-weaker}
use Rattle.coordination.proofs.FirstSights.{of_one_table}
use Rattle.coordination.proofs.openings.Slot.opening.Goals as goal

pub returns-clause-service : goal.returns-clause-service
returns-clause-service c = IfOk-weaker c.open_slot.result _ _ (λ opened own. of_one_table _ opened.1.items own) c.open_slot.ensures.service
