-- Counting down from the most that there may be.
use Rattle.std.specs.Prelude.{ℕ, ◌≡◌, ◌+◌, ◌<◌, Option, MatchOption}

-- what is left of a room of which so much is taken, if it has so much
abbrev pub IsLeft : ℕ → ℕ → Option ℕ → Type 0
IsLeft room taken o = MatchOption o (room < taken) (λ left. left + taken ≡ room)
