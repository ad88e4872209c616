use Rattle.plan_document.specs.View.{view}
use Rattle.plan_reader.proofs.PlaceNumbers.{repeat_within}
use Rattle.plan_reader.proofs.names.numbered_names.Goals as goal

pub new-requires-in-Err : goal.new-requires-in-Err
new-requires-in-Err c = repeat_within (view c.args.document.now) c.args.part _ _ c.requires c.in_ok-names.ensures (rw c.in-Err.is at c.in_ok-table.ensures)
