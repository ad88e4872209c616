-- What is known of a sink, and what printing did to it.
use Rattle.std.specs.Prelude.{◌≡◌, ℕ, ◌+◌, ◌≤◌, List, ◌++◌, Option, Result, Ok, Err, min, ◌-◌, ◌^◌}
use Rattle.std.specs.Io.KnownBytes.{Appends}

-- the bytes taken, where they are known, and the count of faults
pub record SinkView : Type 0 where
  pub taken : Option (List ℕ)
  pub faults : ℕ

-- the count rose, or stood at its last value
abbrev pub Rises : ℕ → ℕ → Type 0
Rises old new = min (old + 1) (2 ^ 64 - 1) ≤ new

-- the whole text was taken
pub record Wrote (old new : SinkView) (text : List ℕ) : Type 0 where
  pub taken : Appends old.taken new.taken text
  pub faults : old.faults ≤ new.faults

-- a front of the text was taken, and the count rose
pub record Broke (old new : SinkView) (text : List ℕ) : Type 0 where
  pub front : List ℕ
  pub back : List ℕ
  pub parts : text ≡ front ++ back
  pub taken : Appends old.taken new.taken front
  pub faults : Rises old.faults new.faults

-- what printing a text answers, and did
abbrev pub Prints : {A E : Type 0} → SinkView → SinkView → List ℕ → Result A E → Type 0
Prints old new text (Ok _) = Wrote old new text
Prints old new text (Err _) = Broke old new text
