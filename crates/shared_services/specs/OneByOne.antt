-- Two lists, member by member.
use Rattle.std.specs.Prelude.{List, [], ◌∷◌}

-- the lists are of one length, and each member of the first is related to the member of the second in its place
abbrev pub OneByOne : {X Y : Type 0} → (X → Y → Type 0) → List X → List Y → Type 0
OneByOne R [] [] = Unit {0}
OneByOne R (x ∷ xs) (y ∷ ys) = R x y × OneByOne R xs ys
OneByOne R _ _ = ⊥
