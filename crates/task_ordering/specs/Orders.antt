-- Orders of the members of a set by what stands before what, and the least of them.
use Rattle.std.specs.Prelude.{ℕ, ◌≡◌, ◌⊎◌, ◌<◌, List, length, slice_index, Contains}

-- A member has a rank where each that stands before it has one, by finitely many uses of this rule.
pub data HasRank (IsMember : ℕ → Type 0) (IsBefore : ℕ → ℕ → Type 0) : ℕ → Type 0 where
  has_rank : (t : ℕ) → IsMember t → ((u : ℕ) → IsBefore u t → HasRank IsMember IsBefore u) → HasRank IsMember IsBefore t

pub record StandsAt (xs : List ℕ) (place t : ℕ) : Type 0 where
  pub within : place < length xs
  pub is : slice_index xs place ≡ t

-- each member stands in the list exactly once, and earlier than those that it is before
pub record IsOrder (IsMember : ℕ → Type 0) (IsBefore : ℕ → ℕ → Type 0) (xs : List ℕ) : Type 0 where
  pub only : (t : ℕ) → Contains xs t → IsMember t
  pub all : (t : ℕ) → IsMember t → Contains xs t
  pub once : (t j k : ℕ) → StandsAt xs j t → StandsAt xs k t → j ≡ k
  pub earlier : (a b j k : ℕ) → IsBefore a b → StandsAt xs j a → StandsAt xs k b → j < k

-- the smaller number stands in xs, at the first place where the lists differ
pub record IsLesser (xs ys : List ℕ) : Type 0 where
  pub place : ℕ
  pub within : place < length xs
  pub within_other : place < length ys
  pub same : (k : ℕ) → k < place → slice_index xs k ≡ slice_index ys k
  pub smaller : slice_index xs place < slice_index ys place

-- an order that is lesser than each other
pub record IsLeastOrder (IsMember : ℕ → Type 0) (IsBefore : ℕ → ℕ → Type 0) (xs : List ℕ) : Type 0 where
  pub order : IsOrder IsMember IsBefore xs
  pub least : (ys : List ℕ) → IsOrder IsMember IsBefore ys → (xs ≡ ys) ⊎ IsLesser xs ys
