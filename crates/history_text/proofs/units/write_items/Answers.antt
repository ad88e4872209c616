use Rattle.std.proofs.Common.{◌+◌, length, map, refl}
use Rattle.std.proofs.lemmas.Option.{slice_get_read}
use Rattle.lock_journal.specs.Closings.{outcome_in}
use Rattle.plan_reader.specs.PlanView.{work_view}
use Rattle.plan_reader.specs.Units.{item_unit}
use Rattle.history_text.specs.Results.{unit_text}
use Rattle.history_text.proofs.lemmas.Numbering.{adds_next, slice_get_through}
use Rattle.history_text.proofs.units.write_items.Goals as goal

pub loop-index-preserved : goal.loop-index-preserved
loop-index-preserved g c =
    let i = c.loop-index.index in
    let items = c.args.items.now in
    let work = c.index-items-index.result in
    let here = slice_get_read items (length items) i work refl c.loop-index-test.true c.index-items-index.is in
    adds_next (unit_text (outcome_in c.args.book.now.history)) c.args.first (map item_unit (map work_view items)) i (c.args.first + i) (item_unit (work_view work)) refl
    (slice_get_through item_unit (map work_view items) i (work_view work) (slice_get_through work_view items i work here))
    c.loop-index.invariant c.write_item.ensures
