use Rattle.std.proofs.Common.{◌≡◌, ◌+◌, ◌++◌, take, vec_capacity, vec_len}
use Rattle.resource_lock.proofs.number_lists.append.Given as goal

-- the numbers so far
abbrev pub invariant-loop-number : goal.invariant-loop-number
invariant-loop-number l =
    (l.numbers.items ≡ l.fn.numbers.items ++ take l.number-index l.list)
    × (vec_len l.numbers ≡ vec_len l.fn.numbers + l.number-index)
    × (vec_capacity l.numbers ≡ vec_capacity l.fn.numbers)
