use Rattle.std.proofs.Common.{◌∙◌, arith, refl}
use Rattle.lock_journal.specs.Shown.{entry_shown}
use Rattle.history_check.proofs.Closings.{closes_unit}
use Rattle.history_check.proofs.Drives.{all_driven, counted_alike, entry_driven, entry_stopped, none_driven}
use Rattle.history_check.proofs.driving.drive_entries.Goals as goal

pub loop-place-init : goal.loop-place-init
loop-place-init g c = record { files = refl; faults = refl; driven = none_driven g.F.Files.keeps c.args.plan.now (g.F.Files.files c.args.files.now) c.args.book.now.history c.args.files.now }

pub drive_entry-requires-clause-within : goal.drive_entry-requires-clause-within
drive_entry-requires-clause-within g c = λ d one.
    let unit = closes_unit c.args.book.now.graph c.args.book.now.history c.loop-place.place (entry_shown c.entry-entry.result) d c.state.ensures.lawful c.entry-entry.ensures.shown one in
    omega (arith, unit, c.requires.fits)

pub loop-place-preserved : goal.loop-place-preserved
loop-place-preserved g c = record {
  files = c.drive_entry.ensures.files ∙ c.loop-place.invariant.files;
  faults = c.in_ok-drive_entry.ensures.counted ∙ c.loop-place.invariant.faults;
  driven = entry_driven g.F.Files.keeps c.args.plan.now (g.F.Files.files c.args.files.now) (g.F.Files.files c.loop-place.files) c.args.book.now.history c.args.files.now c.loop-place.files c.drive_entry.new.files
      c.loop-place.place _ (entry_shown c.entry-entry.result) c.loop-place.invariant.driven c.entry-entry.ensures.shown c.loop-place.invariant.files c.in_ok-drive_entry.ensures.driven;
}

pub returns-in_err-drive_entry-clause-files : goal.returns-in_err-drive_entry-clause-files
returns-in_err-drive_entry-clause-files g c = c.drive_entry.ensures.files ∙ c.loop-place.invariant.files

pub returns-in_err-drive_entry-clause-counted : goal.returns-in_err-drive_entry-clause-counted
returns-in_err-drive_entry-clause-counted g c =
    counted_alike (g.F.Files.faults c.args.files.now) (g.F.Files.faults c.loop-place.files) (g.F.Files.faults c.drive_entry.new.files) _ c.from_residual.result c.loop-place.invariant.faults c.from_residual.ensures.1
    c.in_err-drive_entry.ensures.counted

pub returns-in_err-drive_entry-clause-driven : goal.returns-in_err-drive_entry-clause-driven
returns-in_err-drive_entry-clause-driven g c =
    entry_stopped g.F.Files.keeps c.args.plan.now (g.F.Files.files c.args.files.now) (g.F.Files.files c.loop-place.files) c.args.book.now.history c.args.files.now c.loop-place.files c.drive_entry.new.files
    c.loop-place.place _ (entry_shown c.entry-entry.result) _ c.from_residual.result c.loop-place.invariant.driven c.entry-entry.ensures.shown c.loop-place.invariant.files refl c.from_residual.ensures.1 c.in_err-drive_entry.ensures.driven

pub returns-clause-driven : goal.returns-clause-driven
returns-clause-driven g c =
    all_driven g.F.Files.keeps c.args.plan.now (g.F.Files.files c.args.files.now) c.args.book.now.history c.args.files.now c.loop-place.files c.loop-place.place (omega arith) c.loop-place.invariant.driven
