-- Ranks: a task has one where each task that it comes after has one.
use Rattle.std.specs.Prelude.{◌≡◌, ◌<◌, ℕ, Bool, true, false, List, [], length, map, slice_index_or, Vec, Contains, Option, Some, None}
use Rattle.std.specs.declared.alloc.Global.{Global}

-- for each task the numbers of the tasks that it comes after
abbrev pub Dependencies : Type 0
Dependencies = List (List ℕ)

abbrev pub after : Dependencies → ℕ → List ℕ
after d t = slice_index_or d t []

-- a task has a rank, by finitely many uses of the rule
pub data Ranked (d : Dependencies) : ℕ → Type 0 where
  ranked : (t : ℕ) → ((u : ℕ) → Contains (after d t) u → Ranked d u) → Ranked d t

abbrev pub lists_of : List (Vec ℕ Global) → List (List ℕ)
lists_of rows = map (λ row. row.items) rows

-- each number is that of a task
abbrev pub InRange : Dependencies → Type 0
InRange d = (t k : ℕ) → t < length d → k < length (after d t) → slice_index_or (after d t) k 0 < length d

-- the first task without a rank, or none where each has one
abbrev pub IsFirstCycle : Dependencies → Option ℕ → Type 0
IsFirstCycle d None = (t : ℕ) → t < length d → Ranked d t
IsFirstCycle d (Some t) = (t < length d) × (Ranked d t → ⊥) × ((u : ℕ) → u < t → Ranked d u)

-- the marks of exactly the tasks that have a rank
pub record MarksRanked (d : Dependencies) (marks : List Bool) : Type 0 where
  pub size : length marks ≡ length d
  pub sound : (t : ℕ) → t < length d → slice_index_or marks t false ≡ true → Ranked d t
  pub complete : (t : ℕ) → t < length d → Ranked d t → slice_index_or marks t false ≡ true
