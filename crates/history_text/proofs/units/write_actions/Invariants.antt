use Rattle.std.proofs.Common.{◌≡◌, ◌+◌, length, take, map}
use Rattle.std.specs.List.{flat_map}
use Rattle.file_access.specs.PageView.{Adds}
use Rattle.lock_journal.specs.Closings.{outcome_in}
use Rattle.plan_reader.specs.PlanView.{plan_action_view}
use Rattle.plan_reader.specs.Units.{action_units}
use Rattle.history_text.specs.Text.{numbered}
use Rattle.history_text.specs.Results.{unit_text}
use Rattle.history_text.proofs.units.write_actions.Given as goal

abbrev pub invariant-loop-action : goal.invariant-loop-action
invariant-loop-action g l = record {
  text : Adds (g.K.Sink.seen l.fn.sink) l.fn.page (g.K.Sink.seen l.sink) l.page (numbered (unit_text (outcome_in l.book.history)) l.first (flat_map action_units (take l.action-index (map plan_action_view l.actions))));
  next : l.next ≡ l.first + length (flat_map action_units (take l.action-index (map plan_action_view l.actions)));
}
