use Rattle.std.proofs.Common.{sym, ap, ◌∙◌, ◌+◌, ◌-◌, length, List}
use Rattle.history_text.specs.Plain.{Change}
use Rattle.history_text.specs.Reading.{with_front, further_at}
use Rattle.history_text.proofs.Further.{further_done, further_wrong, further_more}
use Rattle.history_text.proofs.entry_lines.read_further.Goals as goal

pub returns-in-None : goal.returns-in-None
returns-in-None c = sym c.loop.invariant ∙ further_done c.loop.changes.items (length c.args.text.now) c.loop.counter c.args.worker c.loop.rest.now c.loop-test.true c.in-None.ensures

pub returns-in_default : goal.returns-in_default
returns-in_default c = sym c.loop.invariant ∙ further_wrong c.loop.changes.items (length c.args.text.now) c.loop.counter c.args.worker c.loop.rest.now _ c.loop-test.true c.in-Some.ensures c.in_default.ensures

pub loop-preserved : goal.loop-preserved
loop-preserved c =
    ap (λ (l : List Change). with_front l (further_at (length c.args.text.now - (c.loop.counter + 1)) c.args.worker c.in-Some-read_change.more.now)) c.in_ok-push-in-Some.ensures.items
    ∙ (sym (further_more c.loop.changes.items (length c.args.text.now) c.loop.counter c.args.worker c.loop.rest.now _ _ _ c.loop-test.true c.in-Some.ensures c.in-Some-read_change.ensures)
    ∙ c.loop.invariant)
