use Rattle.std.proofs.Common.{ℕ, ◌+◌, ap, ◌∙◌, arith}
use Rattle.std.specs.Prelude.{nat_lt}
use Rattle.picture_layout.specs.Occupancy.{stands_after}
use Rattle.picture_layout.proofs.Made.{made_more}
use Rattle.picture_layout.proofs.Swept.{swept_on, told_here}
use Rattle.picture_layout.proofs.occupancy.standing.Goals as goal

pub loop-before-preserved : goal.loop-before-preserved
loop-before-preserved c =
    let occupancy = c.args.occupancy in
    let w = c.args.worker in
    let spans = c.args.spans.now in
    let before = c.loop-before.before in
    let next = c.reach_over-reach.result in
    let begun = c.split_begun.result.0.now in
    let swept = c.loop-before.invariant.1 in
    let here = told_here occupancy w spans next begun swept c.split_begun.ensures.before c.reach_over-reach.ensures in (
      made_more (stands_after occupancy w spans) 1 before (before + 1) c.loop-before.held.items c.push.new.self.items (nat_lt c.from.result next) (omega arith)
          c.in_ok-push.ensures.items c.loop-before.invariant.0 (ap (λ (n : ℕ). nat_lt n next) c.from.ensures ∙ here),
      swept_on occupancy w spans next begun c.split_begun.result.1.now swept c.split_begun.ensures.before c.split_begun.ensures.from c.reach_over-reach.ensures,
    )
