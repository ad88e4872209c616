use Rattle.std.proofs.Common.{take, map}
use Rattle.file_access.specs.PageView.{Adds}
use Rattle.lock_journal.specs.Closings.{outcome_in}
use Rattle.plan_reader.specs.PlanView.{work_view}
use Rattle.plan_reader.specs.Units.{item_unit}
use Rattle.history_text.specs.Text.{numbered}
use Rattle.history_text.specs.Results.{unit_text}
use Rattle.history_text.proofs.units.write_items.Given as goal

abbrev pub invariant-loop-index : goal.invariant-loop-index
invariant-loop-index g l = Adds (g.K.Sink.seen l.fn.sink) l.fn.page (g.K.Sink.seen l.sink) l.page (numbered (unit_text (outcome_in l.book.history)) l.first (take l.index (map item_unit (map work_view l.items))))
