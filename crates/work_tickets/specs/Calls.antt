-- What a push and a pop say.
use Rattle.std.specs.Prelude.{◌≡◌, ◌<◌, ℕ, List, [], ◌∷◌, length}
use Rattle.work_tickets.specs.Lines.{GoesOn}
use Rattle.work_tickets.specs.Sights.{popping, pushing}
use Rattle.work_tickets.specs.declared.rule.Line.{Line}
use Rattle.work_tickets.specs.declared.rule.Sight.{Sight}

-- The line has gone on since the seat saw it. For a seat that is the only one it is as the seat has left it.
pub record Finds (s : Sight) (line : Line) : Type 0 where
  pub goes_on : GoesOn s.line line
  pub alone : s.seats ≡ 1 → line ≡ s.line

-- The seat found a line with room for another ticket, and put the unit at its end.
pub record HasPushed (capacity unit : ℕ) (old new : Sight) : Type 0 where
  pub line : Line
  pub found : Finds old line
  pub room : length line.queued < capacity
  pub sight : new ≡ pushing old line unit

-- The seat found a line with no room for another ticket.
pub record WasFull (capacity : ℕ) (s : Sight) : Type 0 where
  pub line : Line
  pub found : Finds s line
  pub full : length line.queued ≡ capacity

-- The seat found a line of which the unit was the first, and took it off.
pub record HasPopped (unit : ℕ) (old new : Sight) : Type 0 where
  pub line : Line
  pub rest : List ℕ
  pub found : Finds old line
  pub first : line.queued ≡ unit ∷ rest
  pub sight : new ≡ popping old line unit rest

-- The seat found a line in which nothing was queued.
pub record WasEmpty (s : Sight) : Type 0 where
  pub line : Line
  pub found : Finds s line
  pub empty : line.queued ≡ []
