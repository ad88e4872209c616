use Rattle.std.proofs.Common.{ap, position, bytes_eq, ◌∙◌}
use Rattle.plan_reader.proofs.name_table.NameTable.place_by_order.Goals as goal

pub returns : goal.returns
returns c = c.copied.ensures ∙ c.get.ensures.value ∙ c.self.invariant.0 c.args.name.now ∙ ap (position (bytes_eq c.args.name.now)) c.self.view_is
