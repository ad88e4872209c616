use Rattle.std.proofs.Common.{◌∙◌, sym}
use Rattle.std.proofs.lemmas.Result.{IfOk-weaker}
use Rattle.plan_reader.specs.Planned.{work_of}
use Rattle.plan_reader.specs.Taken.{known_names}
use Rattle.plan_reader.proofs.Lists.{map_of_elements}
use Rattle.plan_reader.proofs.parts.items_of_action.Goals as goal

pub returns : goal.returns
returns c =
    let by_data = sym (map_of_elements (work_of (known_names c.args.known.now) c.args.known.now.profiles.now) _ _ c.take_items.ensures.items) in
    IfOk-weaker c.works_of.result _ _ (λ items are. are ∙ by_data) c.works_of.ensures
