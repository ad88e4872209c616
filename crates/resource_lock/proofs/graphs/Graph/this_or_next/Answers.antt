use Rattle.std.proofs.Common.{get_or, ap, ◌∙◌, arith}
use Rattle.resource_lock.specs.GraphView.{no_action}
use Rattle.resource_lock.proofs.Noting.{next_action}
use Rattle.resource_lock.proofs.lemmas.Units.{end_of, few_actions_in_all}
use Rattle.resource_lock.proofs.graphs.Graph.this_or_next.Goals as goal

pub overflow_add-result : goal.overflow_add-result
overflow_add-result c = omega (arith, c.requires.place.within, few_actions_in_all c.args.self.now c.actions.ensures.fits)

pub returns-else-from-units_end-clause-action : goal.returns-else-from-units_end-clause-action
returns-else-from-units_end-clause-action c =
    (next_action c.args.self.now c.args.unit c.args.action c.actions.ensures.fits c.requires.unit c.requires.place
    (omega (arith, c.if-from-units_end.false, c.from.ensures, c.units_end.ensures ∙ ap (λ actions. end_of (get_or actions c.args.action no_action)) c.actions.ensures.value))).1

pub returns-else-from-units_end-clause-in_range : goal.returns-else-from-units_end-clause-in_range
returns-else-from-units_end-clause-in_range c =
    (next_action c.args.self.now c.args.unit c.args.action c.actions.ensures.fits c.requires.unit c.requires.place
    (omega (arith, c.if-from-units_end.false, c.from.ensures, c.units_end.ensures ∙ ap (λ actions. end_of (get_or actions c.args.action no_action)) c.actions.ensures.value))).0
