-- the changes that are left are noted behind those so far, and there is room for them
use Rattle.std.proofs.Common.{◌≡◌, ◌≤◌, length}
use Rattle.lock_journal.specs.Names.{all_recalled, changes_left}
use Rattle.lock_journal.proofs.books.taking_back.recall.Given as goal

abbrev pub invariant-loop-change : goal.invariant-loop-change
invariant-loop-change l =
    (all_recalled l.work (changes_left l.change-iterator) ≡ all_recalled l.fn.work (changes_left l.fn.changes))
    × (length (changes_left l.change-iterator) ≤ l.work.room)
