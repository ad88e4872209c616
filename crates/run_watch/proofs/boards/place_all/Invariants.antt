-- the looks so far are in their places
use Rattle.std.proofs.Common.{◌≡◌, ◌++◌, length}
use Rattle.std.specs.List.{All}
use Rattle.std.specs.Vec.Iter.{into_iter_items}
use Rattle.lock_journal.specs.BookView.{BookView}
use Rattle.run_watch.specs.Looks.{MayShow, WasSeenIn}
use Rattle.run_watch.proofs.boards.place_all.Given as goal

abbrev pub invariant-loop-look : goal.invariant-loop-look
invariant-loop-look l = record {
  looks : l.fn.looks.items ≡ l.yielded ++ into_iter_items l.look-iterator;
  len : length l.places ≡ length l.initial.places;
  shown : (b : BookView) → All (WasSeenIn b) l.fn.looks.items → All (MayShow b) l.initial.places → All (MayShow b) l.places;
}
