-- Marks of tasks.
use Rattle.std.specs.Prelude.{ℕ, ◌≡◌, ◌<◌, Bool, true, false, List, length, slice_index_or}

abbrev pub IsMarked : List Bool → ℕ → Type 0
IsMarked marks t = slice_index_or marks t false ≡ true

-- there are n marks, of exactly the tasks of which it holds
pub record MarksExactly (n : ℕ) (Holds : ℕ → Type 0) (marks : List Bool) : Type 0 where
  pub size : length marks ≡ n
  pub sound : (t : ℕ) → IsMarked marks t → Holds t
  pub complete : (t : ℕ) → Holds t → IsMarked marks t

-- the first task to run without a mark
pub record IsFirstUnplaced (to_run placed : List Bool) (t : ℕ) : Type 0 where
  pub is_to_run : IsMarked to_run t
  pub unplaced : slice_index_or placed t false ≡ false
  pub before : (u : ℕ) → u < t → IsMarked to_run u → IsMarked placed u
