use Rattle.plan_document.specs.View.{view}
use Rattle.plan_table.specs.Values.{text_of}
use Rattle.plan_reader.proofs.Loops.{taken_more, taken_all, ended}
use Rattle.plan_reader.proofs.profiles.texts_of.Goals as goal

pub loop-value-preserved : goal.loop-value-preserved
loop-value-preserved c =
    taken_more (λ v. text_of (view v)) _ _ c.in-Some.value _ _ _ _ c.in-Some.ensures.steps.0 c.into_text.ensures c.in_ok-push.ensures.items c.loop-value.invariant

pub returns : goal.returns
returns c = taken_all (λ v. text_of (view v)) _ _ _ (ended c.loop-value.value-iterator c.in-None.ensures.steps.0) c.loop-value.invariant
