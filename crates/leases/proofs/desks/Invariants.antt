use Rattle.std.proofs.Common.{◌≡◌, length}
use Rattle.leases.proofs.desks.Given as goal

-- as many desks as turns
abbrev pub invariant-loop : goal.invariant-loop
invariant-loop l = length l.desks.items ≡ l.counter
