-- What taking bytes comes to that a source has read ahead.
use Rattle.std.specs.Prelude.{ℕ, ◌≡◌, ◌-◌, ◌≤◌, List, [], ◌++◌, length, Option, Result, Ok, Err}
use Rattle.std.specs.Io.KnownBytes.{Consumes}
use Rattle.memchr.specs.Find.{Nowhere, Passes, is_byte}

-- So many bytes were taken from the front of what was left, and stand behind the line. Of these only the last may be a line end.
pub record TakesAhead (old new : Option (List ℕ)) (was is : List ℕ) (most count : ℕ) : Type 0 where
  pub piece : List ℕ
  pub taken : Consumes old new piece
  pub line : is ≡ was ++ piece
  pub long : length piece ≡ count
  pub few : count ≤ most
  pub one_line : Nowhere (Passes (is_byte 10) piece) 0 (count - 1)

abbrev pub GivesAhead : {E : Type 0} → Option (List ℕ) → Option (List ℕ) → List ℕ → List ℕ → ℕ → Result ℕ E → Type 0
GivesAhead old new was is most (Ok n) = TakesAhead old new was is most n
GivesAhead old new was is most (Err _) = Consumes old new [] × (is ≡ was)
