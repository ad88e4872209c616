use Rattle.std.proofs.Common.{length, map, refl, arith}
use Rattle.std.proofs.lemmas.Option.{slice_get_read}
use Rattle.lock_journal.specs.Closings.{outcome_in}
use Rattle.plan_reader.specs.PlanView.{plan_action_view}
use Rattle.plan_reader.specs.Units.{action_units}
use Rattle.history_text.specs.Results.{unit_text}
use Rattle.history_text.proofs.lemmas.Numbering.{slice_get_through}
use Rattle.history_text.proofs.Parts.{within_whole, length-flat_map-next, adds_part}
use Rattle.history_text.proofs.units.write_actions.Goals as goal

pub write_action-next-requires-clause-within : goal.write_action-next-requires-clause-within
write_action-next-requires-clause-within g c =
    let i = c.loop-action.action-index in
    let actions = c.args.actions.now in
    let action = c.action-item.result in
    let here = slice_get_through plan_action_view actions i action (slice_get_read actions (length actions) i action refl c.loop-action-test.true c.action-item.is) in
    omega (arith, within_whole action_units (map plan_action_view actions) i (plan_action_view action) here, c.loop-action.invariant.next, c.requires.within)

pub loop-action-preserved : goal.loop-action-preserved
loop-action-preserved g c =
    let i = c.loop-action.action-index in
    let actions = c.args.actions.now in
    let action = c.action-item.result in
    let here = slice_get_through plan_action_view actions i action (slice_get_read actions (length actions) i action refl c.loop-action-test.true c.action-item.is) in
    record {
      text = adds_part (unit_text (outcome_in c.args.book.now.history)) action_units c.args.first c.loop-action.next (map plan_action_view actions) i (plan_action_view action) c.loop-action.invariant.next here c.loop-action.invariant.text c.write_action-next.ensures.text;
      next = omega (arith, length-flat_map-next action_units (map plan_action_view actions) i (plan_action_view action) here, c.loop-action.invariant.next, c.write_action-next.ensures.next);
    }
