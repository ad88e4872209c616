use Rattle.plan_document.specs.View.{view}
use Rattle.plan_reader.specs.PlanView.{work_view}
use Rattle.plan_reader.specs.Planned.{work_of}
use Rattle.plan_reader.specs.Taken.{known_names}
use Rattle.plan_reader.proofs.Loops.{seen_taken_more, taken_all, ended}
use Rattle.plan_reader.proofs.parts.works_of.Goals as goal

pub loop-item-preserved : goal.loop-item-preserved
loop-item-preserved c =
    seen_taken_more work_view (λ v. work_of (known_names c.args.known.now) c.args.known.now.profiles.now (view v)) _ _ c.in-Some.item _ _ _ _ c.in-Some.ensures.steps.0 c.in_ok-work_of.ensures c.in_ok-push.ensures.items c.loop-item.invariant

pub returns : goal.returns
returns c = taken_all (λ v. work_of (known_names c.args.known.now) c.args.known.now.profiles.now (view v)) _ _ _ (ended c.loop-item.item-iterator c.in-None.ensures.steps.0) c.loop-item.invariant
