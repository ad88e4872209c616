use Rattle.std.proofs.Common.{◌≡◌, ◌++◌, map}
use Rattle.std.specs.Vec.Iter.{into_iter_items}
use Rattle.plan_reader.proofs.Pairs.{pair_shown}
use Rattle.plan_reader.proofs.profiles.pairs_of.Given as goal

abbrev pub invariant-loop-name : goal.invariant-loop-name
invariant-loop-name l = l.pairs.items ++ map pair_shown (into_iter_items l.name-iterator) ≡ map pair_shown l.fn.table.items
