use Rattle.std.proofs.Common.{sym}
use Rattle.plan_document.proofs.Found.{member_at, no_member}
use Rattle.plan_document.proofs.values.found.Goals as goal

pub returns-in-Some : goal.returns-in-Some
returns-in-Some c =
    sym (member_at c.args.key.now c.args.entries.now c.in-Some.place c.index-entries-place.result (sym c.in-Some.ensures.place))

pub returns-in-None : goal.returns-in-None
returns-in-None c = sym (no_member c.args.key.now c.args.entries.now (sym c.in-None.ensures.place))
