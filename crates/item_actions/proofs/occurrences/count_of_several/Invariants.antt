use Rattle.std.proofs.Common.{◌≡◌, ◌+◌, ◌≤◌, length}
use Rattle.item_actions.specs.Bytes.{occurrences}
use Rattle.item_actions.proofs.occurrences.count_of_several.Given as goal

abbrev pub invariant-loop-place : goal.invariant-loop-place
invariant-loop-place l = record {
  counted : l.total + length l._place-iterator ≡ occurrences l.needle l.bytes;
  few : l.total + length l._place-iterator ≤ length l.bytes + 1;
}
