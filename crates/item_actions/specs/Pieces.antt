-- The pieces of a list of bytes that is split at each line end, by their places.
use Rattle.std.specs.Prelude.{◌≡◌, ◌≢◌, ℕ, ◌-◌, ◌<◌, ◌≤◌, ◌⊎◌, List, length, slice_index}

-- from place i up to place j stands no line end
pub record HasNoLineEnd (bytes : List ℕ) (i j : ℕ) : Type 0 where
  pub order : i ≤ j
  pub within : j ≤ length bytes
  pub none : (k : ℕ) → i ≤ k → k < j → slice_index bytes k ≢ 10

-- a piece, which begins at the start or behind a line end, and ends before one or at the end
pub record IsPiece (bytes : List ℕ) (i j : ℕ) : Type 0 where
  pub whole : HasNoLineEnd bytes i j
  pub begins : (i ≡ 0) ⊎ (slice_index bytes (i - 1) ≡ 10)
  pub ends : (j ≡ length bytes) ⊎ (slice_index bytes j ≡ 10)
