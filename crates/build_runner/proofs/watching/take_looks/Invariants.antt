-- the board is still that of the pass
use Rattle.std.proofs.Common.{◌≡◌, ◌++◌}
use Rattle.std.specs.Vec.Iter.{into_iter_items}
use Rattle.build_runner.proofs.watching.take_looks.Given as goal

abbrev pub invariant-loop-kit : goal.invariant-loop-kit
invariant-loop-kit l = record {
  kits : l.fn.kits.items ≡ l.yielded ++ into_iter_items l.kit-iterator;
  seen : l.board.seen ≡ l.last.sight.seen;
  units : l.board.units ≡ l.fn.room;
}
