use Rattle.std.proofs.Common.{◌≡◌, ◌≤◌, length, max, drop}
use Rattle.memchr.specs.Find.{is_byte, places_between}
use Rattle.item_actions.specs.Bytes.{longest}
use Rattle.item_actions.proofs.pieces.longest_piece.Given as goal

abbrev pub invariant-loop-end : goal.invariant-loop-end
invariant-loop-end l = record {
  within : l.from ≤ length l.bytes;
  ends : l.end-iterator ≡ places_between (is_byte 10) l.bytes l.from (length l.bytes);
  so_far : longest l.bytes ≡ max l.best (longest (drop l.from l.bytes));
}
