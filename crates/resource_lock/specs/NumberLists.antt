-- Lists of numbers as ranges of one.
use Rattle.std.specs.Prelude.{ℕ, zero, suc, ◌≡◌, ◌≤◌, List, [], ◌∷◌, slice_index_or, slice_range}

-- the lists that end at these places of the numbers, the first of which begins at start
abbrev pub lists_from : List ℕ → ℕ → List ℕ → List (List ℕ)
lists_from numbers start [] = []
lists_from numbers start (e ∷ es) = slice_range numbers start e ∷ lists_from numbers e es

-- the ends rise from start up to n
abbrev pub AreEnds : ℕ → ℕ → List ℕ → Type 0
AreEnds n start [] = start ≡ n
AreEnds n start (e ∷ es) = (start ≤ e) × AreEnds n e es

-- where the list at a place begins
abbrev pub start_at : ℕ → List ℕ → ℕ → ℕ
start_at start es zero = start
start_at start es (suc i) = slice_index_or es i 0
