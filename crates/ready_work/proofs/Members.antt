-- Members of lists of numbers.
use Rattle.std.proofs.Common.{◌≡◌, ℕ, zero, suc, ◌+◌, ◌<◌, List, [], ◌∷◌, length, get_or, take, sym, subst, arith, ◌⊎◌, inl, inr}
use Rattle.std.specs.Prelude.{Contains}
use Rattle.std.proofs.lemmas.List.{take_more}
use Rattle.std.proofs.lemmas.List.Elements.{Contains-append_cases}

-- the only member of a list of one
pub one_member : (x k : ℕ) → Contains (x ∷ []) k → k ≡ x
one_member x k (zero, lt, is) = sym is
one_member x k (suc i, lt, is) = absurd (omega arith)

-- a member of the first i + 1 is one of the first i, or the next
pub in_more : (xs : List ℕ) (i : ℕ) → i < length xs → (k : ℕ) → Contains (take (i + 1) xs) k → Contains (take i xs) k ⊎ (k ≡ get_or xs i 0)
in_more xs i lt k c = at (Contains-append_cases (take i xs) (get_or xs i 0 ∷ []) k (subst (λ ys. Contains ys k) (take_more xs i 0 lt) c))
  where
    at : Contains (take i xs) k ⊎ Contains (get_or xs i 0 ∷ []) k → Contains (take i xs) k ⊎ (k ≡ get_or xs i 0)
    at (inl c) = inl c
    at (inr c) = inr (one_member (get_or xs i 0) k c)

pub contains_more : (x : ℕ) (ks : List ℕ) (t : ℕ) → Contains ks t → Contains (x ∷ ks) t
contains_more x ks t c = let within = c.1 in (suc c.0, omega (arith, within), c.2)
