-- a watch for each item among the units so far
use Rattle.std.proofs.Common.{◌≡◌, ◌≤◌, length, map, vec_capacity}
use Rattle.std.specs.List.{All}
use Rattle.run_watch.specs.Watches.{IsWatchOf, closed_items}
use Rattle.run_watch.proofs.lines.watches_by.Given as goal

abbrev pub invariant-loop-unit : goal.invariant-loop-unit
invariant-loop-unit l = record {
  units : map (λ w. w.unit) l.watches.items ≡ closed_items l.book.history l.unit;
  each : All (IsWatchOf l.book) l.watches.items;
  few : length l.watches.items ≤ l.unit;
  room : vec_capacity l.watches ≡ vec_capacity l.initial.watches;
}
