-- What it takes to give a history away in segments, and what they come to.
use Rattle.std.specs.Prelude.{ℕ, ◌≡◌, ◌≤◌, ◌+◌, List, [], ◌∷◌, length, drop, min, take}
use Rattle.std.specs.List.{flat_map}
use Rattle.lock_transforms.specs.Entry.{Entry}
use Rattle.lock_journal.specs.BookView.{BookView}
use Rattle.lock_journal.specs.SegmentView.{SegmentView}
use Rattle.lock_journal.specs.declared.segments.TheConstants.{MOST_BEFORE}

-- A book can give what it keeps to a segment: that has no entries, and is for as many units, and the history isn't too long.
pub record CanGive (book : BookView) (segment : SegmentView) : Type 0 where
  pub empty : segment.entries ≡ []
  pub units : segment.units ≡ book.graph.units
  pub few : length book.history ≤ MOST_BEFORE

-- The segment got the entries that the book kept, and the book keeps none. Its graph, its state and its history are as before, and it has
-- the room that the segment had.
pub record GivesTo (old new : BookView) (segment segment' : SegmentView) : Type 0 where
  pub graph : new.graph ≡ old.graph
  pub state : new.state ≡ old.state
  pub history : new.history ≡ old.history
  pub given : new.given ≡ length old.history
  pub before : segment'.before ≡ old.given
  pub entries : segment'.entries ≡ drop old.given old.history
  pub units : segment'.units ≡ segment.units
  pub spare_entries : new.spare_entries ≡ segment.spare_entries
  pub spare_changes : min segment.spare_changes old.spare_changes ≤ new.spare_changes

-- the segment's entries are those of the history that have its numbers
abbrev pub IsCutFrom : List Entry → SegmentView → Type 0
IsCutFrom history s = s.entries ≡ take (length s.entries) (drop s.before history)

-- each segment begins where the one before it ends, the first behind n entries
abbrev pub AreInTurn : ℕ → List SegmentView → Type 0
AreInTurn n [] = Unit {0}
AreInTurn n (s ∷ ss) = (s.before ≡ n) × AreInTurn (n + length s.entries) ss

-- all their entries in order
abbrev pub joined : List SegmentView → List Entry
joined ss = flat_map (λ (s : SegmentView). s.entries) ss
