-- the last one among the entries so far
use Rattle.std.proofs.Common.{◌≡◌, take}
use Rattle.worker_notes.specs.WorkerEntries.{last_of}
use Rattle.worker_notes.proofs.last_entries.last_number.Given as goal

abbrev pub invariant-loop-place : goal.invariant-loop-place
invariant-loop-place l = l.last ≡ last_of l.worker (take l.place l.book.history)
