-- Lists: what is mapped, and what is left of them.
use Rattle.std.proofs.Common.{◌≡◌, ℕ, zero, suc, ◌+◌, ◌<◌, List, [], ◌∷◌, length, map, get_or, drop, Option, Some, None, refl, ap, ◌∙◌, subst, arith, Contains, remove, slice_get, All, IsSomeAnd, unwrap_or}

module _ {X : Type 0} where
  pub Some-is : {x y : X} → Some x ≡ Some y → x ≡ y
  Some-is {x} e = ap (λ o. unwrap_or o x) e

module _ {X Y : Type 0} (f : X → Y) where
  pub map-remove : (xs : List X) (i : ℕ) → map f (remove xs i) ≡ remove (map f xs) i
  map-remove [] zero = refl
  map-remove [] (suc i) = refl
  map-remove (x ∷ xs) zero = refl
  map-remove (x ∷ xs) (suc i) = ap (λ ys. f x ∷ ys) (map-remove xs i)

  pub length-mapped : (xs : List X) → length (map f xs) ≡ length xs
  length-mapped [] = refl
  length-mapped (x ∷ xs) = ap suc (length-mapped xs)

module _ {X Y : Type 0} (f g : X → Y) where
  pub same_map : (xs : List X) → ((x : X) → Contains xs x → f x ≡ g x) → map f xs ≡ map g xs
  same_map [] same = refl
  same_map (x ∷ xs) same = rw (same x (0, omega arith, refl), same_map xs (λ y there. same y (suc there.0, omega (arith, there.1), there.2))) refl

module _ {X : Type 0} {P Q : X → Type 0} where
  pub some_weaker : (o : Option X) → IsSomeAnd o P → ((x : X) → P x → Q x) → IsSomeAnd o Q
  some_weaker None some more = absurd some
  some_weaker (Some x) some more = more x some

module _ {X : Type 0} (P : X → Type 0) where
  -- one element more at the front of a rest
  pub All-drop : (xs : List X) (k n : ℕ) → IsSomeAnd (slice_get xs k) P → n ≡ k + 1 → All P (drop n xs) → All P (drop k xs)
  All-drop [] k n here next rest = absurd here
  All-drop (y ∷ ys) zero n here next rest = λ i d within. first i d within
    where
      behind : All P ys
      behind = subst (λ m. All P (drop m (y ∷ ys))) next rest

      first : (i : ℕ) (d : X) → i < length (y ∷ ys) → P (get_or (y ∷ ys) i d)
      first zero d within = here
      first (suc i) d within = behind i d (omega (arith, within))
  All-drop (y ∷ ys) (suc k) n here next rest = All-drop ys k (k + 1) here refl (subst (λ m. All P (drop m (y ∷ ys))) (next ∙ more) rest)
    where
      more : suc k + 1 ≡ suc (k + 1)
      more = omega arith
