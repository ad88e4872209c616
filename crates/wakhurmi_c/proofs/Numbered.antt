-- Elements that have their numbers.
use Rattle.std.proofs.Common.{◌≡◌, ◌≢◌, ◌-◌, ◌+◌, ◌<◌, ◌∷◌, ℕ, zero, suc, List, drop, get_or, length, map, arith, sym, ap, ◌∙◌, drop-cons}
use Rattle.std.proofs.lemmas.List.{get_or-map}
use Rattle.coordination.specs.Sights.{workers_from}

worker_at : (w n i : ℕ) → i < n → get_or (workers_from w n) i 0 ≡ w + i
worker_at w zero i low = absurd (omega (arith, low))
worker_at w (suc n) zero low = omega arith
worker_at w (suc n) (suc i) low = worker_at (suc w) n i (omega (arith, low)) ∙ omega arith

module _ {X : Type 0} (number : X → ℕ) (xs : List X) (i : ℕ) (d : X) (low : i < length xs) where
  -- where the element at a place has its number, and those behind it have theirs
  pub one_more : number (get_or xs i d) ≡ i → map number (drop (i + 1) xs) ≡ workers_from (i + 1) (length xs - (i + 1)) → map number (drop i xs) ≡ workers_from i (length xs - i)
  one_more here rest =
      let next : i + 1 ≡ suc i = omega arith in
      let more : length xs - i ≡ suc (length xs - (i + 1)) = omega (arith, low) in
      let first : drop i xs ≡ get_or xs i d ∷ drop (i + 1) xs = drop-cons xs i d low ∙ (λ j. get_or xs i d ∷ drop (sym next j) xs) in
      ap (map number) first ∙ ((λ j. here j ∷ rest j) ∙ ((λ j. i ∷ workers_from (next j) (length xs - (i + 1))) ∙ sym (ap (workers_from i) more)))

  -- where one hasn't its number, they aren't numbered so
  pub other_number : number (get_or xs i d) ≢ i → map number xs ≢ workers_from 0 (length xs)
  other_number other same =
      let at : number (get_or xs i d) ≡ 0 + i = sym (get_or-map number xs i d 0 low) ∙ (ap (λ (l : List ℕ). get_or l i 0) same ∙ worker_at 0 (length xs) i low) in
      let here : 0 + i ≡ i = omega arith in
      other (at ∙ here)
