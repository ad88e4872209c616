use Rattle.std.proofs.Common.{sym, ap}
use Rattle.file_access.proofs.lemmas.Telling.{adds_as, adds_then}
use Rattle.lock_journal.proofs.NextChanges.{next_change, no_change}
use Rattle.history_text.specs.Text.{changes_text}
use Rattle.history_text.proofs.changes.write_changes.Goals as goal

pub returns-in-None : goal.returns-in-None
returns-in-None g c = adds_as (sym (ap changes_text (no_change c.args.changes c.next.new.self c.next.result c.in-None.is c.next.ensures.steps))) c.text.ensures

pub returns-in-Some : goal.returns-in-Some
returns-in-Some g c =
    adds_as (sym (ap changes_text (next_change c.args.changes c.next.new.self c.next.result c.in-Some.first c.in-Some.is c.next.ensures.steps))) (adds_then c.write_change.ensures c.write_further.ensures)
