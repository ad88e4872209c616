use Rattle.build_workers.proofs.Keeping.{finished_closes}
use Rattle.build_workers.proofs.lemmas.Results.{of_ok}
use Rattle.build_workers.proofs.items.close_item.Goals as goal

pub returns-in-Ok-clause-closed : goal.returns-in-Ok-clause-closed
returns-in-Ok-clause-closed g c = finished_closes (of_ok c.close.result c.in-Ok.field-0 c.in-Ok.is c.close.ensures.entry)
