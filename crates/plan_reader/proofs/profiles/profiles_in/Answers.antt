use Rattle.plan_document.specs.View.{view}
use Rattle.plan_table.specs.Keys.{heap_of}
use Rattle.plan_reader.specs.Planned.{requirements_from}
use Rattle.plan_reader.specs.Rows.{is_heap}
use Rattle.plan_reader.proofs.Loops.{taken_more, taken_all, ended, first_passes, rest_passes}
use Rattle.plan_reader.proofs.profiles.profiles_in.Goals as goal

pub requirements_from-requires : goal.requirements_from-requires
requirements_from-requires c = first_passes (λ v. is_heap (heap_of (view v))) _ _ c.in-Some.value c.in-Some.ensures.steps.0 c.loop-value.invariant.1

pub loop-value-preserved : goal.loop-value-preserved
loop-value-preserved c = (
  taken_more (λ v. requirements_from (view v)) _ _ c.in-Some.value _ _ _ _ c.in-Some.ensures.steps.0 c.in_ok-requirements_from.ensures c.in_ok-push.ensures.items c.loop-value.invariant.0,
  rest_passes (λ v. is_heap (heap_of (view v))) _ _ c.in-Some.value c.in-Some.ensures.steps.0 c.loop-value.invariant.1,
)

pub returns : goal.returns
returns c = taken_all (λ v. requirements_from (view v)) _ _ _ (ended c.loop-value.value-iterator c.in-None.ensures.steps.0) c.loop-value.invariant.0
