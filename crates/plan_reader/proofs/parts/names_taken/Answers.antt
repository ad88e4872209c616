use Rattle.plan_document.specs.View.{view}
use Rattle.plan_table.specs.Keys.{name_of}
use Rattle.plan_reader.proofs.Loops.{taken_more, taken_all, ended}
use Rattle.plan_reader.proofs.parts.names_taken.Goals as goal

pub loop-table-preserved : goal.loop-table-preserved
loop-table-preserved c =
    taken_more (λ v. name_of (view v)) _ _ c.in-Some.table _ _ _ _ c.in-Some.ensures.steps.0 c.take_name.ensures.name c.in_ok-push.ensures.items c.loop-table.invariant

pub returns : goal.returns
returns c = taken_all (λ v. name_of (view v)) _ _ _ (ended c.loop-table.table-iterator c.in-None.ensures.steps.0) c.loop-table.invariant
