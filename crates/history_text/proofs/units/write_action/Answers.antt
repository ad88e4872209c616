use Rattle.std.proofs.Common.{◌∙◌, ◌++◌, ap, map, sym}
use Rattle.file_access.proofs.lemmas.Telling.{adds_as, adds_then}
use Rattle.lock_journal.specs.Closings.{outcome_in}
use Rattle.plan_reader.specs.PlanView.{work_view}
use Rattle.plan_reader.specs.Units.{fetch_units, item_unit}
use Rattle.history_text.specs.Text.{numbered}
use Rattle.history_text.specs.Results.{unit_text}
use Rattle.history_text.proofs.lemmas.Numbering.{numbered-append}
use Rattle.history_text.proofs.units.write_action.Goals as goal

pub returns-clause-text : goal.returns-clause-text
returns-clause-text g c =
    let line = unit_text (outcome_in c.args.book.now.history) in
    let fetch = fetch_units c.args.action.now.fetch in
    let items = map item_unit (map work_view c.deref.result.now) in
    let told = ap (λ works. numbered line c.args.first (fetch ++ map item_unit (map work_view works))) c.deref.ensures.value in
    adds_as (ap (λ n. numbered line c.args.first fetch ++ numbered line n items) c.write_fetch-first_item.ensures.next ∙ sym (numbered-append line c.args.first fetch items) ∙ told) (adds_then c.write_fetch-first_item.ensures.text c.write_items.ensures)
