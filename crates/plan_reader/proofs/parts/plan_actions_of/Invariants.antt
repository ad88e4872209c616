use Rattle.std.proofs.Common.{◌≡◌, ◌++◌, map}
use Rattle.std.specs.Vec.Iter.{into_iter_items}
use Rattle.plan_document.specs.View.{view}
use Rattle.plan_reader.specs.PlanView.{plan_action_view}
use Rattle.plan_reader.specs.Planned.{action_of}
use Rattle.plan_reader.specs.Taken.{known_names}
use Rattle.plan_reader.proofs.parts.plan_actions_of.Given as goal

abbrev pub invariant-loop-value : goal.invariant-loop-value
invariant-loop-value l =
    map plan_action_view l.actions.items ++ map (λ v. action_of (known_names l.known) l.known.profiles.now (view v)) (into_iter_items l.value-iterator)
    ≡ map (λ v. action_of (known_names l.known) l.known.profiles.now (view v)) l.fn.values.items
