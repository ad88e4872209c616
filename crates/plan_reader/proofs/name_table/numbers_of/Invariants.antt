use Rattle.std.proofs.Common.{◌≡◌, ◌<◌, ℕ, false, take}
use Rattle.plan_reader.specs.NameNumbers.{texts, is_repeat, AreNumbered}
use Rattle.plan_reader.proofs.name_table.numbers_of.Given as goal

abbrev pub invariant-loop-i : goal.invariant-loop-i
invariant-loop-i l = AreNumbered (take l.i (texts l.names)) l.numbers × ((k : ℕ) → k < l.i → is_repeat (texts l.names) k ≡ false)
