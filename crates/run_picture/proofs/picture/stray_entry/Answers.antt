use Rattle.std.proofs.Common.{sym, ◌∙◌, arith}
use Rattle.run_picture.proofs.Straying.{stray_more, stray_here, stray_none}
use Rattle.run_picture.proofs.picture.stray_entry.Goals as goal

pub loop-place-preserved : goal.loop-place-preserved
loop-place-preserved c =
    stray_more c.args.workers c.args.entries.now c.loop-place.place c.index-entries-place.result c.loop-place-test.true c.index-entries-place.is (sym c.is_stray.ensures ∙ c.if-is_stray.false)
    ∙ c.loop-place.invariant

pub returns-then-is_stray : goal.returns-then-is_stray
returns-then-is_stray c =
    stray_here c.args.workers c.args.entries.now c.loop-place.place c.index-entries-place.result c.loop-place-test.true c.index-entries-place.is (sym c.is_stray.ensures ∙ c.if-is_stray.true)
    ∙ c.loop-place.invariant

pub returns : goal.returns
returns c = stray_none c.args.workers c.args.entries.now c.loop-place.place (omega (arith, c.loop-place-test.false)) ∙ c.loop-place.invariant
