use Rattle.plan_document.specs.View.{view}
use Rattle.plan_reader.specs.PlanView.{plan_action_view}
use Rattle.plan_reader.specs.Planned.{action_of}
use Rattle.plan_reader.specs.Taken.{known_names}
use Rattle.plan_reader.proofs.Loops.{seen_taken_more, taken_all, ended}
use Rattle.plan_reader.proofs.parts.plan_actions_of.Goals as goal

pub loop-value-preserved : goal.loop-value-preserved
loop-value-preserved c =
    seen_taken_more plan_action_view (λ v. action_of (known_names c.args.known.now) c.args.known.now.profiles.now (view v)) _ _ c.in-Some.value _ _ _ _ c.in-Some.ensures.steps.0 c.in_ok-action_of.ensures c.in_ok-push.ensures.items c.loop-value.invariant

pub returns : goal.returns
returns c = taken_all (λ v. action_of (known_names c.args.known.now) c.args.known.now.profiles.now (view v)) _ _ _ (ended c.loop-value.value-iterator c.in-None.ensures.steps.0) c.loop-value.invariant
