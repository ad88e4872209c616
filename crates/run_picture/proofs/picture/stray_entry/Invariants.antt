use Rattle.std.proofs.Common.{◌≡◌, ◌+◌, drop, map}
use Rattle.history_text.specs.HistoryView.{entry_read}
use Rattle.run_picture.specs.Picture.{stray_from}
use Rattle.run_picture.proofs.picture.stray_entry.Given as goal

abbrev pub invariant-loop-place : goal.invariant-loop-place
invariant-loop-place l = stray_from l.workers (l.place + 1) (drop l.place (map entry_read l.entries)) ≡ stray_from l.workers 1 (map entry_read l.entries)
