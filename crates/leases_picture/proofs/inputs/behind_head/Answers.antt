use Rattle.std.proofs.Common.{sym, ◌∙◌}
use Rattle.leases_picture.proofs.Finding.{head_there, no_head, passes_line, no_bytes, some_bytes}
use Rattle.leases_picture.proofs.inputs.behind_head.Goals as goal

pub returns-in-Some-clause-some : goal.returns-in-Some-clause-some
returns-in-Some-clause-some c = head_there c.in-Some.version c.loop-version.invariant c.next_line.ensures c.in-Some.ensures.some

pub returns-then-is_empty-clause-none : goal.returns-then-is_empty-clause-none
returns-then-is_empty-clause-none c =
    no_head c.loop-version.invariant c.next_line.ensures c.in_default.ensures.none (no_bytes c.next_line.result.1.now (sym c.is_empty.ensures ∙ c.if-is_empty.true))

pub loop-version-preserved : goal.loop-version-preserved
loop-version-preserved c =
    passes_line c.loop-version.invariant c.next_line.ensures c.in_default.ensures.none (some_bytes c.next_line.result.1.now (sym c.is_empty.ensures ∙ c.if-is_empty.false))
