use Rattle.std.proofs.Common.{◌∙◌, sym}
use Rattle.std.proofs.lemmas.Result.{IfOk-weaker}
use Rattle.plan_reader.specs.Planned.{action_of}
use Rattle.plan_reader.specs.Taken.{known_names}
use Rattle.plan_reader.proofs.Lists.{map_of_elements}
use Rattle.plan_reader.proofs.parts.actions_of_task.Goals as goal

pub returns : goal.returns
returns c =
    let by_data = sym (map_of_elements (action_of (known_names c.args.known.now) c.args.known.now.profiles.now) _ _ c.take_actions.ensures.actions) in
    IfOk-weaker c.plan_actions_of.result _ _ (λ actions are. are ∙ by_data) c.plan_actions_of.ensures
