use Rattle.std.proofs.Common.{ap, is_some, bytes_eq, ◌∙◌}
use Rattle.plan_table.proofs.lemmas.Positions.{position_any}
use Rattle.plan_reader.proofs.name_table.NameTable.has.Goals as goal

pub returns : goal.returns
returns c = c.is_some.ensures ∙ ap is_some c.place_of.ensures ∙ position_any (bytes_eq c.args.name.now) _
