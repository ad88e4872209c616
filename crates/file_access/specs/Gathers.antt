-- A file's bytes, gathered read by read.
use Rattle.std.specs.Prelude.{◌≡◌, ℕ, List, ◌++◌, length, Option, Result, Ok, Err}
use Rattle.std.specs.Io.KnownBytes.{Consumes, IsAtEnd, Keeps}

-- a read took this many bytes from the reader and gathered them, and none only at the reader's end
pub record Gathers (before after : Option (List ℕ)) (old new : List ℕ) (count : ℕ) : Type 0 where
  pub piece : List ℕ
  pub gathered : new ≡ old ++ piece
  pub count_of : length piece ≡ count
  pub taken : Consumes before after piece
  pub end : count ≡ 0 → IsAtEnd after

-- what a read did, of which there is nothing where it failed
abbrev pub ReadGathers : {E : Type 0} → Option (List ℕ) → Option (List ℕ) → List ℕ → List ℕ → Result ℕ E → Type 0
ReadGathers before after old new (Ok count) = Gathers before after old new count
ReadGathers before after old new (Err _) = (new ≡ old) × Keeps before after
