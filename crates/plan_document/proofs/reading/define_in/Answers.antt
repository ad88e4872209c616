use Rattle.std.proofs.Common.{rules}
use Rattle.toml.specs.Tables.{define}
use Rattle.plan_document.proofs.reading.define_in.Goals as goal

pub returns-in-Pair : goal.returns-in-Pair
unfolding define
returns-in-Pair c = search rules

pub returns-in_default : goal.returns-in_default
unfolding define
returns-in_default c = search rules
