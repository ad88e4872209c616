-- What a parser makes of words.
use Rattle.std.specs.Prelude.{codes, Bool, false, List, [], unwrap_or, if◌then◌else◌, Option, None}
use Rattle.std.specs.Option.{option_map_or}
use Rattle.std.specs.Str.{bytes_eq}
use Rattle.clap.specs.Walk.{Row, Text, first_of, is_empty}
use Rattle.clap.specs.Simple.{App, matches_of}
use Rattle.clap.specs.Faults.{fault_of}

-- the value of an argument that has to stand there
abbrev pub given : Text → List Row → Text
given id rows = unwrap_or (first_of id rows) []

-- a flag that was named
abbrev pub is_on : Text → List Row → Bool
is_on id rows = option_map_or (bytes_eq (codes "true")) (first_of id rows) false

-- the parser finds no fault with the words
abbrev pub is_faultless : App → List Text → Bool
is_faultless app words = is_empty (fault_of app words)

-- what words ask for: the parser finds no fault with them, and its matches give it
abbrev pub asked_of : {X : Type 0} → App → (List Row → Option X) → List Text → Option X
asked_of app of_rows words = if is_faultless app words then of_rows (matches_of app words) else None
