use Rattle.std.proofs.Common.{◌∙◌}
use Rattle.std.proofs.lemmas.List.{take_all}
use Rattle.plan_reader.proofs.Loops.{shown_more}
use Rattle.plan_reader.proofs.name_table.strs_of.Goals as goal

pub loop-name-preserved : goal.loop-name-preserved
loop-name-preserved c =
    shown_more (λ s. s.now) c.args.names.now c.loop-name.name-index c.name-item.result _ _ _ c.loop-name-test.true c.name-item.is c.as_str.ensures c.in_ok-push.ensures.items c.loop-name.invariant

pub returns : goal.returns
returns c = c.loop-name.invariant ∙ take_all c.loop-name.name-index c.args.names.now c.loop-name-test.false
