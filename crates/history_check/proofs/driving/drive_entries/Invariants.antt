use Rattle.std.proofs.Common.{◌≡◌}
use Rattle.history_check.proofs.Drives.{AreDrivenTo}
use Rattle.history_check.proofs.driving.drive_entries.Given as goal

-- the entries so far are true, and no read failed
abbrev pub invariant-loop-place : goal.invariant-loop-place
invariant-loop-place g l = record {
  files : g.F.Files.files l.files ≡ g.F.Files.files l.fn.files;
  faults : g.F.Files.faults l.files ≡ g.F.Files.faults l.fn.files;
  driven : AreDrivenTo g.F.Files.keeps l.plan (g.F.Files.files l.fn.files) l.book.history l.fn.files l.files l.place;
}
