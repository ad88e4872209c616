-- The desks of a run, back in their places.
use Rattle.std.proofs.Common.{◌≡◌, ℕ, ◌+◌, ◌-◌, ◌<◌, ◌≤◌, ◌⊎◌, inl, inr, List, ◌++◌, length, get_or, take, drop, ap, ◌∙◌, arith}
use Rattle.std.proofs.lemmas.Bool.{cases_lt}
use Rattle.std.proofs.lemmas.List.{get_or-drop, get_or-take, get_or_append_left, get_or-append_right}

-- The first n of the old ones worked, and lie in front of the others again.
module _ {D : Type 0} (old worked new : List D) (n : ℕ) (long : length worked ≡ n) (is : new ≡ worked ++ drop n old) where
  pub place_within : (i : ℕ) (d : D) → i < n → get_or new i d ≡ get_or worked i d
  place_within i d low = ap (λ (l : List D). get_or l i d) is ∙ get_or_append_left worked (drop n old) d i (omega (arith, long, low))

  pub place_behind : (i : ℕ) (d : D) → n ≤ i → get_or new i d ≡ get_or old i d
  place_behind i d past =
      let e : n + (i - n) ≡ i = omega (arith, past) in
      ap (λ (l : List D). get_or l i d) is ∙ (get_or-append_right worked (drop n old) n i d long past ∙ (get_or-drop n old (i - n) d ∙ ap (λ (k : ℕ). get_or old k d) e))

  pub stay : {X : Type 0} (f : D → X) → ((i : ℕ) (d : D) → i < n → f (get_or worked i d) ≡ f (get_or (take n old) i d)) → (i : ℕ) (d : D) → f (get_or new i d) ≡ f (get_or old i d)
  stay f same i d = at (cases_lt i n)
    where
      at : (i < n) ⊎ (n ≤ i) → f (get_or new i d) ≡ f (get_or old i d)
      at (inl low) = ap f (place_within i d low) ∙ (same i d low ∙ ap f (get_or-take n old i d low))
      at (inr past) = ap f (place_behind i d past)

  pub rise : (f : D → ℕ) → ((i : ℕ) (d : D) → i < n → f (get_or (take n old) i d) ≤ f (get_or worked i d)) → (i : ℕ) (d : D) → f (get_or old i d) ≤ f (get_or new i d)
  rise f rises i d = at (cases_lt i n)
    where
      at : (i < n) ⊎ (n ≤ i) → f (get_or old i d) ≤ f (get_or new i d)
      at (inl low) = let a = ap f (place_within i d low) in let b = ap f (get_or-take n old i d low) in let r = rises i d low in omega (arith, a, b, r)
      at (inr past) = let a = ap f (place_behind i d past) in omega (arith, a)
