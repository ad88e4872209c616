-- what is stored of the changes before this one
use Rattle.std.proofs.Common.{◌≡◌, ◌+◌, ◌++◌, map, take, vec_capacity, vec_len}
use Rattle.lock_journal.specs.StoredChange.{stored_change}
use Rattle.lock_journal.proofs.stored_changes.store_changes.Given as goal

abbrev pub invariant-loop-change : goal.invariant-loop-change
invariant-loop-change l =
    (l.stored.items ≡ l.fn.stored.items ++ map stored_change (take l.change-index l.changes))
    × (vec_len l.stored ≡ vec_len l.fn.stored + l.change-index)
    × (vec_capacity l.stored ≡ vec_capacity l.fn.stored)
