-- the entries so far
use Rattle.std.proofs.Common.{◌≡◌, ◌<◌, ℕ, get_or, length, take}
use Rattle.run_watch.specs.Watches.{closing_number}
use Rattle.run_watch.proofs.closings.note_closings.Given as goal

abbrev pub invariant-loop-place : goal.invariant-loop-place
invariant-loop-place l =
    (length l.closings ≡ length l.initial.closings)
    × ((u d : ℕ) → u < length l.closings → get_or l.closings u d ≡ closing_number u (take l.place l.book.history))
