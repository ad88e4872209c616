use Rattle.std.proofs.Common.{refl}
use Rattle.plan_document.specs.View.{view}
use Rattle.plan_reader.proofs.Lists.{length_of_seen}
use Rattle.plan_reader.proofs.limits.table_count.Goals as goal

pub returns : goal.returns
returns c = length_of_seen view c.args.tables.now _ refl
