-- Ranges one behind the other.
use Rattle.std.proofs.Common.{◌≡◌, ℕ, ◌+◌, ◌-◌, ◌<◌, ◌≤◌, List, [], ◌∷◌, length, map, get_or, sym, ◌∙◌, ap, arith, zero, suc, Some, inl, inr}
use Rattle.std.specs.List.{slice_get}
use Rattle.std.proofs.lemmas.Option.{slice_get_within, get_or_from_slice_get}
use Rattle.std.specs.List.Sorted.{IsNonDecreasingBy}
use Rattle.std.proofs.lemmas.Bool.{cases_eq}
use Rattle.resource_lock.specs.Fits.{Follow}

-- of other things that have the same ranges
pub follow_of_map : {X Y : Type 0} (f : X → Y) (first count : Y → ℕ) (n : ℕ) (xs : List X) (stop : ℕ) → Follow (λ x. first (f x)) (λ x. count (f x)) n xs stop → Follow first count n (map f xs) stop
follow_of_map f first count n [] stop h = h
follow_of_map f first count n (x ∷ xs) stop h = (h.0, follow_of_map f first count (n + count (f x)) xs stop h.1)

pub follow_from_map : {X Y : Type 0} (f : X → Y) (first count : Y → ℕ) (n : ℕ) (xs : List X) (stop : ℕ) → Follow first count n (map f xs) stop → Follow (λ x. first (f x)) (λ x. count (f x)) n xs stop
follow_from_map f first count n [] stop h = h
follow_from_map f first count n (x ∷ xs) stop h = (h.0, follow_from_map f first count (n + count (f x)) xs stop h.1)

-- the last range ends at the stop
pub last_range_at : {X : Type 0} (first count : X → ℕ) (n : ℕ) (xs : List X) (stop i : ℕ) (d : X) → Follow first count n xs stop → i + 1 ≡ length xs → first (get_or xs i d) + count (get_or xs i d) ≡ stop
last_range_at first count n [] stop i d h last = absurd (omega arith)
last_range_at first count n (x ∷ []) stop zero d h last = omega (arith, h.0, h.1)
last_range_at first count n (x ∷ (y ∷ ys)) stop zero d h last = absurd (omega arith)
last_range_at first count n (x ∷ xs) stop (suc i) d h last = last_range_at first count (n + count x) xs stop i d h.1 (omega arith)

pub last_range : {X : Type 0} (first count : X → ℕ) (xs : List X) (stop : ℕ) (x : X) → slice_get xs (length xs - 1) ≡ Some x → Follow first count 0 xs stop → first x + count x ≡ stop
last_range first count xs stop x is h =
    let within : length xs - 1 < length xs = slice_get_within xs (length xs - 1) x is in
    ap (λ y. first y + count y) (sym (get_or_from_slice_get xs (length xs - 1) x x is)) ∙ last_range_at first count 0 xs stop (length xs - 1) x h (omega arith)

-- a range begins where those before it end
range_from : {X : Type 0} (first count : X → ℕ) (n : ℕ) (xs : List X) (stop i : ℕ) (d : X) → Follow first count n xs stop → i < length xs → n ≤ first (get_or xs i d)
range_from first count n [] stop i d h within = absurd (omega arith)
range_from first count n (x ∷ xs) stop zero d h within = omega (arith, h.0)
range_from first count n (x ∷ xs) stop (suc i) d h within = omega (arith, range_from first count (n + count x) xs stop i d h.1 (omega arith))

-- the first range begins at the start
pub first_range : {X : Type 0} (first count : X → ℕ) (n : ℕ) (xs : List X) (stop : ℕ) (d : X) → Follow first count n xs stop → 0 < length xs → first (get_or xs 0 d) ≡ n
first_range first count n [] stop d h some = absurd (omega arith)
first_range first count n (x ∷ xs) stop d h some = h.0

-- each other range begins where the one before it ends
pub next_range : {X : Type 0} (first count : X → ℕ) (n : ℕ) (xs : List X) (stop i : ℕ) (d : X) → Follow first count n xs stop → suc i < length xs → first (get_or xs (suc i) d) ≡ first (get_or xs i d) + count (get_or xs i d)
next_range first count n [] stop i d h within = absurd (omega arith)
next_range first count n (x ∷ xs) stop zero d h within = omega (arith, first_range first count (n + count x) xs stop d h.1 (omega arith), h.0)
next_range first count n (x ∷ xs) stop (suc i) d h within = next_range first count (n + count x) xs stop i d h.1 (omega arith)

-- a range ends before those behind it begin
pub ends_before : {X : Type 0} (first count : X → ℕ) (n : ℕ) (xs : List X) (stop i j : ℕ) (d : X) → Follow first count n xs stop → i < j → j < length xs → first (get_or xs i d) + count (get_or xs i d) ≤ first (get_or xs j d)
ends_before first count n [] stop i j d h less within = absurd (omega arith)
ends_before first count n (x ∷ xs) stop i zero d h less within = absurd (omega arith)
ends_before first count n (x ∷ xs) stop zero (suc j) d h less within = omega (arith, h.0, range_from first count (n + count x) xs stop j d h.1 (omega arith))
ends_before first count n (x ∷ xs) stop (suc i) (suc j) d h less within = ends_before first count (n + count x) xs stop i j d h.1 (omega arith) (omega arith)

-- so their ends rise
pub ends_rise : {X : Type 0} (first count : X → ℕ) (n : ℕ) (xs : List X) (stop : ℕ) → Follow first count n xs stop → IsNonDecreasingBy (λ x. first x + count x) xs
ends_rise first count n xs stop h = λ i j d least within. elim (cases_eq i j) [
  | inl same ↦ omega (arith, ap (λ k. first (get_or xs k d) + count (get_or xs k d)) same)
  | inr other ↦ omega (arith, ends_before first count n xs stop i j d h (omega arith) within)
]
