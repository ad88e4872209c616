-- What is seen of a whole run.
use Rattle.std.specs.Prelude.{◌≡◌, [], List, false, true}
use Rattle.lock_journal.specs.BookView.{BookView}
use Rattle.run_watch.specs.Watches.{AreWatchesOf}
use Rattle.run_watch.specs.declared.boards.Watch.{Watch}
use Rattle.build_workers.specs.declared.options.RunOptions.{RunOptions}

-- what is seen of a run by rising unit, where it is watched, else nothing
abbrev pub IsWatchedRun : RunOptions → BookView → List Watch → Type 0
IsWatchedRun options b ws = (options.watch ≡ true → AreWatchesOf b ws) × (options.watch ≡ false → ws ≡ [])
