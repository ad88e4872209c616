use Rattle.std.proofs.Common.{ap, sym, ◌∙◌, arith, position, bytes_eq}
use Rattle.plan_reader.proofs.Near.{stands}
use Rattle.plan_reader.proofs.name_table.NameTable.stands_at.Goals as goal

pub returns-then-place-len : goal.returns-then-place-len
returns-then-place-len c = λ passes.
    sym (ap (position (bytes_eq c.args.name.now)) c.self.view_is)
    ∙ stands c.self.inside.names.items c.args.place c.index.result.now c.args.name.now c.eq.result (omega (arith, c.if-place-len.true, c.len.ensures))
    c.index.ensures c.self.invariant.1 c.eq.ensures passes
