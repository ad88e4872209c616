-- Lists that are made of numbers that follow one another.
use Rattle.std.proofs.Common.{◌≡◌, ℕ, ◌+◌, List, [], ◌∷◌, ◌++◌, map, sym, ap₂, ◌∙◌}
use Rattle.std.specs.List.{range_with_len}
use Rattle.std.proofs.lemmas.List.FromFn.{map-range_with_len_more}

-- one more of those that are made of numbers from a on
pub made_more : {X : Type 0} (f : ℕ → X) (a p j : ℕ) (xs ys : List X) (x : X) → a + p ≡ j → ys ≡ xs ++ x ∷ [] → xs ≡ map f (range_with_len a p) → x ≡ f j
    → ys ≡ map f (range_with_len a (p + 1))
made_more f a p j xs ys x place pushed before here = pushed ∙ (ap₂ (λ l y. l ++ y ∷ []) before here ∙ sym (map-range_with_len_more f a p j place))
