use Rattle.std.proofs.Common.{sym, ◌∙◌}
use Rattle.std.proofs.lemmas.Result.{IfOk-weaker}
use Rattle.plan_table.specs.Keys.{heap_of}
use Rattle.plan_table.proofs.lemmas.Lists.{all_of_elements}
use Rattle.plan_reader.specs.Rows.{is_heap}
use Rattle.plan_reader.specs.Planned.{requirements_from}
use Rattle.plan_reader.proofs.Lists.{map_of_elements}
use Rattle.plan_reader.proofs.profiles.all_requirements.Goals as goal

pub profiles_in-requires : goal.profiles_in-requires
profiles_in-requires c = sym (all_of_elements (λ r. is_heap (heap_of r)) _ _ c.take_requirements.ensures.requirements) ∙ c.requires

pub returns-clause-requirements : goal.returns-clause-requirements
returns-clause-requirements c =
    let by_data = sym (map_of_elements requirements_from _ _ c.take_requirements.ensures.requirements) in
    IfOk-weaker c.profiles_in.result _ _ (λ profiles are. are ∙ by_data) c.profiles_in.ensures
