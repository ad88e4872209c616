use Rattle.std.proofs.Common.{arith, sym, ◌∙◌}
use Rattle.plan_document.proofs.Rising.{rises_more, rises_all}
use Rattle.plan_document.proofs.values.rises.Goals as goal

pub loop-place-init : goal.loop-place-init
loop-place-init c = (omega arith, λ k d below. absurd (omega (arith, below)))

pub loop-place-preserved : goal.loop-place-preserved
loop-place-preserved c = (
  omega (arith, c.loop-place.invariant.0),
  rises_more c.args.entries.now c.loop-place.place _ _ c.loop-place.invariant.0 c.loop-place-test.true (sym c.cmp.ensures ∙ c.in-Less.is) c.loop-place.invariant.1,
)

pub returns : goal.returns
returns c same = rises_all c.args.entries.now c.loop-place.place c.loop-place-test.false c.loop-place.invariant.1
