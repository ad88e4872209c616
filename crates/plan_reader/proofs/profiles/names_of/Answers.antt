use Rattle.std.proofs.Common.{◌∙◌}
use Rattle.plan_document.specs.View.{view}
use Rattle.plan_table.specs.Keys.{name_of}
use Rattle.plan_reader.proofs.Loops.{mapped_more, mapped_all}
use Rattle.plan_reader.proofs.profiles.names_of.Goals as goal

pub loop-value-preserved : goal.loop-value-preserved
loop-value-preserved c =
    mapped_more (λ v. name_of (view v)) c.args.values.now c.loop-value.value-index c.value-item.result _ _ _ c.loop-value-test.true c.value-item.is
    (c.in_ok-from_str.ensures ∙ c.name_of.ensures) c.in_ok-push.ensures.items c.loop-value.invariant

pub returns : goal.returns
returns c = mapped_all (λ v. name_of (view v)) c.args.values.now c.loop-value.value-index _ c.loop-value-test.false c.loop-value.invariant
