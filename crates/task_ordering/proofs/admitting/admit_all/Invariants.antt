use Rattle.std.proofs.Common.{◌≡◌, take}
use Rattle.task_ordering.proofs.admitting.admit_all.Given as goal

-- the book has the entries so far
abbrev pub invariant-loop-place : goal.invariant-loop-place
invariant-loop-place g l = (l.book.graph ≡ l.initial.book.graph) × (l.book.history ≡ take l.place (g.H.Entries.entries l.history))
