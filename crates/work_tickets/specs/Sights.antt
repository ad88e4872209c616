-- What seats have seen of the line, and what passes show.
use Rattle.std.specs.Prelude.{ℕ, suc, ◌-◌, ◌+◌, List, [], ◌∷◌, ◌++◌, length}
use Rattle.work_tickets.specs.Lines.{line_of, pushed}
use Rattle.work_tickets.specs.declared.rule.Line.{Line}
use Rattle.work_tickets.specs.declared.rule.Sight.{Sight}
use Rattle.work_tickets.specs.declared.rule.PassView.{PassView}

-- a seat of so many that has neither pushed nor popped
abbrev pub fresh : ℕ → Sight
fresh seats = record { seats = seats; line = line_of [] []; pushes = []; pops = [] }

-- the seat has put the unit at the end of the line
abbrev pub pushing : Sight → Line → ℕ → Sight
pushing s line unit = record {
  seats = s.seats;
  line = line_of line.popped (line.queued ++ unit ∷ []);
  pushes = s.pushes ++ length (pushed line) ∷ [];
  pops = s.pops;
}

-- the seat has taken the unit off the line, of which the rest is queued
abbrev pub popping : Sight → Line → ℕ → List ℕ → Sight
popping s line unit rest = record {
  seats = s.seats;
  line = line_of (line.popped ++ unit ∷ []) rest;
  pushes = s.pushes;
  pops = s.pops ++ length line.popped ∷ [];
}

-- the pass of several seats
abbrev pub all_of : List Sight → PassView
all_of sights = record { seats = 0; uncut = 0; sights = sights }

-- the pass of one seat
abbrev pub one : Sight → PassView
one s = all_of (s ∷ [])

-- the pass that seats are cut off, of which so many are left
abbrev pub keeper : ℕ → ℕ → PassView
keeper seats uncut = record { seats = seats; uncut = uncut; sights = [] }

-- the keeper of one seat
abbrev pub first_keeper : PassView
first_keeper = keeper 1 1

-- one seat more is to be cut off
abbrev pub keeper_of_more : PassView → PassView
keeper_of_more v = keeper (suc v.seats) (suc v.uncut)

-- one seat has been cut off
abbrev pub keeper_of_rest : PassView → PassView
keeper_of_rest v = record { seats = v.seats; uncut = v.uncut - 1; sights = v.sights }

-- a pass without a seat
abbrev pub nobody : PassView
nobody = keeper 0 0

-- the second pass has been joined to the first
abbrev pub both_views : PassView → PassView → PassView
both_views v w = record { seats = v.seats; uncut = v.uncut + w.uncut; sights = v.sights ++ w.sights }

abbrev pub first_or : Sight → List Sight → Sight
first_or s [] = s
first_or s (x ∷ xs) = x

-- the sight of the pass of one seat
abbrev pub sight_of : PassView → Sight
sight_of v = first_or (fresh 0) v.sights
