use Rattle.std.proofs.Common.{Ok, ap, ◌∙◌, arith}
use Rattle.task_ordering.proofs.Lawfulness.{admitted_next, all_lawful, first_refused}
use Rattle.task_ordering.proofs.admitting.admit_all.Goals as goal

pub loop-place-preserved : goal.loop-place-preserved
loop-place-preserved g c =
    let admitted = c.in_ok-admit.ensures.admitted (ap Ok c.if-not-branch.false) in
    (admitted.graph ∙ c.loop-place.invariant.0, admitted_next (g.H.Entries.entries c.args.history.now) c.loop-place.place c.at.result c.at.ensures c.loop-place.book c.admit.new.book c.loop-place.invariant.1 admitted)

pub returns-then-not-branch : goal.returns-then-not-branch
returns-then-not-branch g c =
    first_refused (g.H.Entries.entries c.args.history.now) c.loop-place.place c.at.result c.at.ensures c.loop-place.book c.admit.new.book c.loop-place.invariant.1 c.args.book.now.graph c.loop-place.invariant.0
    c.state.ensures.replays c.state.ensures.lawful (c.in_ok-admit.ensures.refused (ap Ok c.if-not-branch.true))

pub returns : goal.returns
returns g c =
    all_lawful (g.H.Entries.entries c.args.history.now) c.loop-place.place c.args.book.now.graph c.loop-place.book c.loop-place.invariant.0 c.loop-place.invariant.1 (omega (arith, c.loop-place-test.false, c.count-place-end.ensures)) c.state-2.ensures.lawful
