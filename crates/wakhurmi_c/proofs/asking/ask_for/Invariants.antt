-- the locks so far
use Rattle.std.proofs.Common.{◌≡◌, take}
use Rattle.wakhurmi_c.specs.Locks.{locks_of}
use Rattle.wakhurmi_c.proofs.asking.ask_for.Given as goal

abbrev pub invariant-loop-number : goal.invariant-loop-number
invariant-loop-number l = l.asked.items ≡ locks_of (take l.number-index l.numbers)
