-- The first position in a list, one element at a time.
use Rattle.std.proofs.Common.{◌≡◌, ℕ, suc, ◌+◌, Bool, true, false, cond, not, nat_lt, List, ◌∷◌, length, Some, None, option_map, refl, ap, arith, ◌∙◌, position}
use Rattle.std.proofs.lemmas.Grind.{common_steps}
use Rattle.std.specs.List.{position_or_len}

pub position_cons : {X : Type 0} (p : X → Bool) (x : X) (xs : List X) → position p (x ∷ xs) ≡ cond (p x) (Some 0) (option_map suc (position p xs))
position_cons p x xs = first (p x)
  where
    by : (b : Bool) (n : ℕ) → cond b (Some (suc n)) None ≡ option_map suc (cond b (Some n) None)
    by true n = refl
    by false n = refl

    rest : (n m : ℕ) → cond (nat_lt (1 + n) (suc m)) (Some (1 + n)) None ≡ option_map suc (cond (nat_lt n m) (Some n) None)
    rest n m =
        let one : 1 + n ≡ suc n = omega arith in
        let same : nat_lt (suc n) (suc m) ≡ nat_lt n m = grind (arith, common_steps) in
        ap (λ k. cond (nat_lt k (suc m)) (Some k) None) one ∙ ap (λ b. cond b (Some (suc n)) None) same ∙ by (nat_lt n m) n

    first : (b : Bool) → cond (nat_lt (cond (not b) (1 + position_or_len p xs) 0) (length (x ∷ xs))) (Some (cond (not b) (1 + position_or_len p xs) 0)) None ≡ cond b (Some 0) (option_map suc (position p xs))
    first true =
        let low : nat_lt 0 (length (x ∷ xs)) ≡ true = grind (arith, common_steps) in
        ap (λ b. cond b (Some 0) None) low
    first false = rest (position_or_len p xs) (length xs)
