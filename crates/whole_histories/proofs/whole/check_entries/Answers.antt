use Rattle.std.proofs.Common.{arith}
use Rattle.history_text.specs.HistoryView.{history_view}
use Rattle.whole_histories.proofs.OneByOne.{none_so_far, one_read, all_read, counted_so_far}
use Rattle.whole_histories.proofs.whole.check_entries.Goals as goal

pub loop-entry-init : goal.loop-entry-init
loop-entry-init g c = none_so_far c.args.plan.now (history_view c.args.history.now) c.in_ok-check.check c.in_ok-check.ensures

pub admit-requires : goal.admit-requires
admit-requires g c =
    omega (arith, counted_so_far c.args.plan.now c.args.history.now c.loop-entry.entry-index c.deref-entry-items.result.now c.loop-entry.check c.deref-entry-items.ensures.value (omega arith) c.loop-entry.invariant)

pub loop-entry-preserved : goal.loop-entry-preserved
loop-entry-preserved g c =
    one_read c.args.plan.now c.args.history.now c.loop-entry.entry-index c.deref-entry-items.result.now c.entry-item.result _ c.loop-entry.check c.admit.new.self
    c.deref-entry-items.ensures.value (omega arith) c.entry-item.is c.as_deref.ensures.value c.loop-entry.invariant c.in_ok-admit.ensures.added

pub returns : goal.returns
returns g c =
    all_read c.args.plan.now c.args.history.now c.loop-entry.entry-index c.deref-entry-items.result.now c.loop-entry.check c.deref-entry-items.ensures.value (omega arith) c.loop-entry.invariant
