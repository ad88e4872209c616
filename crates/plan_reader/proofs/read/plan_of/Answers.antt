use Rattle.std.proofs.Common.{ap, codes, subst, sym, refl, ◌∙◌}
use Rattle.plan_document.specs.View.{view}
use Rattle.plan_table.specs.declared.refusals.Part.TheVariants.{Project, Requirements}
use Rattle.plan_table.specs.Keys.{name_of}
use Rattle.plan_table.specs.Values.{elements}
use Rattle.plan_reader.specs.IsPlan.{IsPlan}
use Rattle.plan_reader.specs.NameNumbers.{first_repeat}
use Rattle.plan_reader.proofs.Accepted.{heaps_fit, is_plan, none_repeated}
use Rattle.plan_reader.proofs.Lists.{map_of_elements}
use Rattle.plan_reader.proofs.TakenTasks.{plan_taken}
use Rattle.plan_reader.proofs.read.plan_of.Goals as goal

pub all_requirements-requires : goal.all_requirements-requires
all_requirements-requires c = heaps_fit (view c.args.document.now) c.requires.accepted.behind

pub tasks_of_plan-requires-clause-projects : goal.tasks_of_plan-requires-clause-projects
tasks_of_plan-requires-clause-projects c =
    let projects = c.take_projects.ensures.projects ∙ ap elements (c.all_requirements.ensures.others (codes "project") refl) in
    ap first_repeat (c.deref.ensures.value ∙ c.in_ok-projects.ensures ∙ sym (map_of_elements name_of _ _ projects))
    ∙ none_repeated (view c.args.document.now) c.requires.accepted Project

pub tasks_of_plan-requires-clause-requirements : goal.tasks_of_plan-requires-clause-requirements
tasks_of_plan-requires-clause-requirements c = ap first_repeat (c.deref-2.ensures.value ∙ c.in_ok-names.ensures) ∙ none_repeated (view c.args.document.now) c.requires.accepted Requirements

pub new-requires : goal.new-requires
new-requires c =
    let d = view c.args.document.now in
    let projects = c.take_projects.ensures.projects ∙ ap elements (c.all_requirements.ensures.others (codes "project") refl) in
    let tables = c.take_tasks-tables.ensures.tasks ∙ ap elements (c.take_projects.ensures.others (codes "task") refl ∙ c.all_requirements.ensures.others (codes "task") refl) in
    let made =
    plan_taken d _ _ _ _ _ _ _ _ _ c.deref.ensures.value c.deref-2.ensures.value c.deref-3.ensures.value (c.in_ok-projects.ensures ∙ sym (map_of_elements name_of _ _ projects)) c.in_ok-names.ensures
    c.in_ok-requirements.ensures.requirements tables c.requires.dependencies c.in_ok-tasks.ensures
    in
    subst IsPlan (sym made) (is_plan d c.requires.accepted)

pub returns-clause-plan : goal.returns-clause-plan
returns-clause-plan c =
    let d = view c.args.document.now in
    let projects = c.take_projects.ensures.projects ∙ ap elements (c.all_requirements.ensures.others (codes "project") refl) in
    let tables = c.take_tasks-tables.ensures.tasks ∙ ap elements (c.take_projects.ensures.others (codes "task") refl ∙ c.all_requirements.ensures.others (codes "task") refl) in
    c.new.ensures
    ∙ plan_taken d _ _ _ _ _ _ _ _ _ c.deref.ensures.value c.deref-2.ensures.value c.deref-3.ensures.value (c.in_ok-projects.ensures ∙ sym (map_of_elements name_of _ _ projects)) c.in_ok-names.ensures
    c.in_ok-requirements.ensures.requirements tables c.requires.dependencies c.in_ok-tasks.ensures
