use Rattle.std.proofs.Common.{ℕ, ◌≡◌, ◌+◌, ◌<◌, List, get_or, length, arith, refl, sym, subst, ap, ◌∙◌}
use Rattle.std.specs.Bool.{then_some}
use Rattle.std.specs.Prelude.{IfSome}
use Rattle.lock_journal.specs.Names.{action_of, no_action, fetches, GraphAction}
use Rattle.resource_lock.proofs.lemmas.Units.{few_actions_in_all}
use Rattle.planned_work.specs.Numbers.{IsActionAt, IsUnitAt}
use Rattle.planned_work.proofs.UnitPlaces.{byte_is, fetch_there, item_there, place_shown, units_within}
use Rattle.planned_work.proofs.numbers.Numbered.unit.Goals as goal

pub overflow_add-action : goal.overflow_add-action
overflow_add-action c =
    let low = (place_shown c.args.graph.now c.tasks-tasks.result.now c.args.self.task c.args.self.action c.at-task.result c.tasks-tasks.ensures.fits c.tasks-tasks.ensures.value (omega (arith, c.if-self-len.false, c.len.ensures)) c.at-task.ensures.first c.at-task.ensures.actions c.if-self-task.false).0 in
    let few = few_actions_in_all c.args.graph.now c.tasks-tasks.ensures.fits in
    omega (arith, low, few)

pub bounds-actions-task : goal.bounds-actions-task
bounds-actions-task c = subst (λ (l : List GraphAction). c.at-task.result.first_action + c.args.self.action < length l) (sym c.actions.ensures.value)
    (place_shown c.args.graph.now c.tasks-tasks.result.now c.args.self.task c.args.self.action c.at-task.result c.tasks-tasks.ensures.fits c.tasks-tasks.ensures.value (omega (arith, c.if-self-len.false, c.len.ensures)) c.at-task.ensures.first c.at-task.ensures.actions c.if-self-task.false).0

module _ (c : goal.After-from) where
  abbrev number : ℕ
  number = c.at-task.result.first_action + c.args.self.action

  abbrev here : (number < length c.args.graph.now.actions) × IsActionAt c.args.graph.now number c.args.self.task c.args.self.action
  here = place_shown c.args.graph.now c.tasks-tasks.result.now c.args.self.task c.args.self.action c.at-task.result c.tasks-tasks.ensures.fits c.tasks-tasks.ensures.value (omega (arith, c.if-self-len.false, c.len.ensures)) c.at-task.ensures.first c.at-task.ensures.actions c.if-self-task.false

  abbrev shown : get_or c.actions.result.now number no_action ≡ action_of c.args.graph.now number
  shown = ap (λ (l : List GraphAction). get_or l number no_action) c.actions.ensures.value

  abbrev first : (get_or c.actions.result.now number no_action).first_unit + c.from.result ≡ (action_of c.args.graph.now number).first_unit + fetches (action_of c.args.graph.now number).fetch
  first = ap (λ n. (get_or c.actions.result.now number no_action).first_unit + n) (c.from.ensures ∙ byte_is (get_or c.actions.result.now number no_action).fetch) ∙ ap (λ (k : GraphAction). k.first_unit + fetches k.fetch) shown

  abbrev inside : c.in-Some.item < (action_of c.args.graph.now number).items
  inside = subst (λ (k : GraphAction). c.in-Some.item < k.items) shown c.if-item-action.true

pub overflow_add-result : goal.overflow_add-result
overflow_add-result c =
    let ends = units_within c.args.graph.now (number c) c.tasks-tasks.ensures.fits (here c).0 in
    let few = c.tasks-tasks.ensures.fits.few_units in
    omega (arith, first c, ends, few)

pub overflow_add-result-in-Some : goal.overflow_add-result-in-Some
overflow_add-result-in-Some c =
    let ends = units_within c.args.graph.now (number c) c.tasks-tasks.ensures.fits (here c).0 in
    let few = c.tasks-tasks.ensures.fits.few_units in
    omega (arith, first c, ends, few, inside c)

pub returns-in-None-clause-some : goal.returns-in-None-clause-some
returns-in-None-clause-some c =
    let g = c.args.graph.now in
    let a = c.at-task.result.first_action + c.args.self.action in
    let at = place_shown g c.tasks-tasks.result.now c.args.self.task c.args.self.action c.at-task.result c.tasks-tasks.ensures.fits c.tasks-tasks.ensures.value (omega (arith, c.if-self-len.false, c.len.ensures)) c.at-task.ensures.first c.at-task.ensures.actions c.if-self-task.false in
    let shown : get_or c.actions.result.now a no_action ≡ action_of g a = ap (λ (l : List GraphAction). get_or l a no_action) c.actions.ensures.value in
    subst (λ r. IfSome r (λ unit. IsUnitAt g unit c.args.self × (unit < g.units))) (sym (c.then_some.ensures ∙ ap (λ (k : GraphAction). then_some k.fetch k.first_unit) shown))
    (fetch_there g a c.args.self (action_of g a).fetch c.tasks-tasks.ensures.fits at.0 at.1 c.in-None.is refl)

pub returns-in-Some-clause-some : goal.returns-in-Some-clause-some
returns-in-Some-clause-some c = item_there c.args.graph.now (number c) c.args.self c.in-Some.item _ c.tasks-tasks.ensures.fits (here c).0 (here c).1 c.in-Some.is (inside c) (ap (λ n. n + c.in-Some.item) (first c))
