-- The first position that passes, and the first answer of a list.
use Rattle.std.proofs.Common.{◌≡◌, ◌⊎◌, ℕ, zero, suc, ◌<◌, Bool, true, false, nat_lt, length, get_or, List, [], ◌∷◌, Option, Some, None, option_map, refl, ap, sym, subst, ◌∙◌, inl, inr, arith}
use Rattle.std.proofs.lemmas.Bool.{cases_lt, ltb-true, ltb-false}
use Rattle.std.proofs.lemmas.List.Sums.{fails_before_first, passes_at_first}
use Rattle.std.proofs.lemmas.Option.{cond_some, none-some, same_Some, slice_get_past, slice_get-get_or}
use Rattle.std.specs.List.{position, position_or_len, slice_get}
use Rattle.std.specs.Option.{option_or, option_map_or}
use Rattle.plan_table.specs.Search.{first_of}

-- ---- the first position that passes

abbrev pub passes_at : {X : Type 0} → (X → Bool) → List X → ℕ → Bool
passes_at p xs i = option_map_or p (slice_get xs i) false

by_element : {X : Type 0} (p : X → Bool) (xs : List X) (i : ℕ) (d : X) (b : Bool) → i < length xs → p (get_or xs i d) ≡ b → passes_at p xs i ≡ b
by_element p xs i d b within e = ap (λ o. option_map_or p o false) (slice_get-get_or xs i d within) ∙ e

passes_before : {X : Type 0} (p : X → Bool) (xs : List X) (i : ℕ) → i < position_or_len p xs → passes_at p xs i ≡ false
passes_before p [] i before = refl
passes_before p (x ∷ xs) i before =
    elim (cases_lt i (length (x ∷ xs))) [
      | inl within ↦ by_element p (x ∷ xs) i x false within (fails_before_first p (x ∷ xs) i x before)
      | inr past ↦ ap (λ o. option_map_or p o false) (slice_get_past (x ∷ xs) i past)
    ]

pub option_map_none : {X Y : Type 0} (f : X → Y) (o : Option X) → option_map f o ≡ None → o ≡ None
option_map_none f None e = refl
option_map_none f (Some x) e = absurd (none-some (f x) (sym e))

pub option_map_some : {X Y : Type 0} (f : X → Y) (o : Option X) (y : Y) → option_map f o ≡ Some y → (x : X) × (o ≡ Some x) × (f x ≡ y)
option_map_some f None y e = absurd (none-some y e)
option_map_some f (Some x) y e = (x, refl, same_Some (f x) y e)

pub passes_nowhere : {X : Type 0} (p : X → Bool) (xs : List X) → position p xs ≡ None → (i : ℕ) → passes_at p xs i ≡ false
passes_nowhere p xs none i = by (nat_lt (position_or_len p xs) (length xs)) refl none
  where
    by : (b : Bool) → nat_lt (position_or_len p xs) (length xs) ≡ b → position p xs ≡ None → passes_at p xs i ≡ false
    by true e n = absurd (none-some (position_or_len p xs) (sym n ∙ rw e refl))
    by false e n =
        elim (cases_lt i (length xs)) [
          | inl within ↦ passes_before p xs i (omega (arith, within, ltb-false _ _ e))
          | inr past ↦ ap (λ o. option_map_or p o false) (slice_get_past xs i past)
        ]

pub passes_first : {X : Type 0} (p : X → Bool) (xs : List X) (n : ℕ) → position p xs ≡ Some n → (passes_at p xs n ≡ true) × ((i : ℕ) → i < n → passes_at p xs i ≡ false)
passes_first p [] n found = absurd (none-some n found)
passes_first p (x ∷ xs) n found =
    let parts = cond_some (nat_lt (position_or_len p (x ∷ xs)) (length (x ∷ xs))) (position_or_len p (x ∷ xs)) n found in
    let within : position_or_len p (x ∷ xs) < length (x ∷ xs) = ltb-true _ _ parts.0 in
    subst (λ m. (passes_at p (x ∷ xs) m ≡ true) × ((i : ℕ) → i < m → passes_at p (x ∷ xs) i ≡ false)) parts.1
    (by_element p (x ∷ xs) _ x true within (passes_at_first p (x ∷ xs) x within), passes_before p (x ∷ xs))

-- ---- the first answer of a list

pub option_or_none : {Y : Type 0} (a b : Option Y) → option_or a b ≡ None → (a ≡ None) × (b ≡ None)
option_or_none None b e = (refl, e)
option_or_none (Some y) b e = absurd (none-some y (sym e))

pub option_or_some : {Y : Type 0} (a b : Option Y) (y : Y) → option_or a b ≡ Some y → (a ≡ Some y) ⊎ ((a ≡ None) × (b ≡ Some y))
option_or_some None b y e = inr (refl, e)
option_or_some (Some z) b y e = inl e

pub first_of_none : {X Y : Type 0} (f : X → Option Y) (xs : List X) → first_of f xs ≡ None → (j : ℕ) (z : X) → slice_get xs j ≡ Some z → f z ≡ None
first_of_none f [] none j z at = absurd (none-some z at)
first_of_none f (x ∷ xs) none zero z at = subst (λ w. f w ≡ None) (same_Some x z at) (option_or_none (f x) (first_of f xs) none).0
first_of_none f (x ∷ xs) none (suc j) z at = first_of_none f xs (option_or_none (f x) (first_of f xs) none).1 j z at

-- x, at k, is the first that gives an answer
pub record FirstOf {X Y : Type 0} (f : X → Option Y) (xs : List X) (y : Y) (k : ℕ) (x : X) : Type 0 where
  pub at : slice_get xs k ≡ Some x
  pub found : f x ≡ Some y
  pub before : (j : ℕ) (z : X) → j < k → slice_get xs j ≡ Some z → f z ≡ None

one_more : {X Y : Type 0} (f : X → Option Y) (x : X) (xs : List X) (k : ℕ) → f x ≡ None → ((j : ℕ) (z : X) → j < k → slice_get xs j ≡ Some z → f z ≡ None)
    → (j : ℕ) (z : X) → j < suc k → slice_get (x ∷ xs) j ≡ Some z → f z ≡ None
one_more f x xs k none rest zero z lt at = subst (λ w. f w ≡ None) (same_Some x z at) none
one_more f x xs k none rest (suc j) z lt at = rest j z (omega (arith, lt)) at

pub first_of_some : {X Y : Type 0} (f : X → Option Y) (xs : List X) (y : Y) → first_of f xs ≡ Some y → (k : ℕ) × (x : X) × FirstOf f xs y k x
first_of_some f [] y e = absurd (none-some y e)
first_of_some f (x ∷ xs) y e =
    elim (option_or_some (f x) (first_of f xs) y e) [
      | inl here ↦ (0, x, record { at = refl; found = here; before = λ j z lt at. absurd (omega (arith, lt)) })
      | inr later ↦
          let (k, z, rest) = first_of_some f xs y later.1 in
          (suc k, z, record { at = rest.at; found = rest.found; before = one_more f x xs k later.0 rest.before })
    ]
