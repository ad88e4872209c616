-- The waiting actions of a task are skipped one after another.
use Rattle.std.proofs.Common.{◌≡◌, ℕ, ◌+◌, ◌<◌, true, inl, inr, arith}
use Rattle.std.specs.List.{range_with_len}
use Rattle.lock_journal.specs.Names.{WorkerId, Mark, Waiting, MarkId, ActionOf, make_all, can_all, GraphView, StateView, mark_of, skipped_waiting}
use Rattle.lock_journal.proofs.Marks.{AllMoves, StaysOrMoves, stays_or_moves}
use Rattle.lock_journal.proofs.Moves.{waiting_move, SkipsAction}
use Rattle.lock_journal.proofs.Ranges.{each_in_range}

-- Skipping the waiting actions below b leaves b's own mark, so code may look at the state as it goes.
abbrev OfOthers : ℕ → MarkId → Mark → Mark → Type 0
OfOthers b (ActionOf a) from to = a < b
OfOthers b _ from to = Unit {0}

pub not_reached : (g : GraphView) (s : StateView) (w : WorkerId) (first n : ℕ) → can_all s w (skipped_waiting g s (range_with_len first n)) ≡ true → mark_of (make_all s w (skipped_waiting g s (range_with_len first n))) (ActionOf (first + n)) ≡ mark_of s (ActionOf (first + n))
not_reached g s w first n h = at (stays_or_moves (OfOthers (first + n)) (skipped_waiting g s (range_with_len first n)) s w moves h (ActionOf (first + n)))
  where
    moves : AllMoves (OfOthers (first + n)) (skipped_waiting g s (range_with_len first n))
    moves = waiting_move (OfOthers (first + n)) g s (range_with_len first n) (each_in_range (λ a. mark_of s (ActionOf a) ≡ Waiting → SkipsAction (OfOthers (first + n)) g a) first n (λ a i e. (i.1, λ u iu. tt)))

    at : StaysOrMoves (OfOthers (first + n)) (ActionOf (first + n)) (mark_of s (ActionOf (first + n))) (mark_of (make_all s w (skipped_waiting g s (range_with_len first n))) (ActionOf (first + n))) → mark_of (make_all s w (skipped_waiting g s (range_with_len first n))) (ActionOf (first + n)) ≡ mark_of s (ActionOf (first + n))
    at (inl same) = same
    at (inr moved) = absurd (let lt = moved.last in omega arith)
