use Rattle.std.proofs.Common.{◌+◌, arith}
use Rattle.lock_journal.specs.Shown.{entry_shown}
use Rattle.history_text.specs.Text.{entry_text}
use Rattle.history_text.proofs.lemmas.Numbering.{adds_next}
use Rattle.history_text.proofs.entries.write_entries.Goals as goal

pub loop-place-preserved : goal.loop-place-preserved
loop-place-preserved g c = adds_next entry_text 1 c.args.book.now.history c.loop-place.place (c.loop-place.place + 1) (entry_shown c.entry.result) (omega arith) c.entry.ensures.shown c.loop-place.invariant c.write_entry.ensures
