use Rattle.std.proofs.Common.{◌∙◌}
use Rattle.picture_layout.specs.declared.layout.TheConstants.{FORMATS}
use Rattle.picture_layout.specs.declared.layout.Folding.TheVariants.{Unfolded}
use Rattle.picture_layout.proofs.Viewed.{taken, passed}
use Rattle.picture_layout.proofs.panels.format_of.Goals as goal

pub returns-then-branch : goal.returns-then-branch
returns-then-branch c =
    taken FORMATS.now c.loop-format.format-index (record { plot = 0; folding = Unfolded }) c.args.workers c.args.spans.now c.args.count c.in_ok-is_viewed.field-0 c.loop-format-test.true c.in_ok-is_viewed.ensures c.if-branch.true
    ∙ c.loop-format.invariant

pub loop-format-preserved : goal.loop-format-preserved
loop-format-preserved c =
    passed FORMATS.now c.loop-format.format-index (record { plot = 0; folding = Unfolded }) c.args.workers c.args.spans.now c.args.count c.in_ok-is_viewed.field-0 c.loop-format-test.true c.in_ok-is_viewed.ensures c.if-branch.false
    ∙ c.loop-format.invariant
