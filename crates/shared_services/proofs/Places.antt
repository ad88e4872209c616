-- What is so of each desk of a list is so at every place: where there is none, the default stands in both lists.
use Rattle.std.proofs.Common.{◌≡◌, ◌<◌, ◌≤◌, ◌⊎◌, inl, inr, ℕ, List, length, get_or, sym, ap, ◌∙◌, arith}
use Rattle.std.proofs.lemmas.Bool.{cases_lt}
use Rattle.std.proofs.lemmas.List.{get_or_past}

module _ {D : Type 0} (old new : List D) (long : length new ≡ length old) where
  past : (i : ℕ) (d : D) → length old ≤ i → get_or new i d ≡ get_or old i d
  past i d high = get_or_past new i d (omega (arith, long, high)) ∙ sym (get_or_past old i d high)

  pub same_at_all : {X : Type 0} (f : D → X) → ((i : ℕ) (d : D) → i < length old → f (get_or new i d) ≡ f (get_or old i d)) → (i : ℕ) (d : D) → f (get_or new i d) ≡ f (get_or old i d)
  same_at_all f same i d = at (cases_lt i (length old))
    where
      at : (i < length old) ⊎ (length old ≤ i) → f (get_or new i d) ≡ f (get_or old i d)
      at (inl low) = same i d low
      at (inr high) = ap f (past i d high)

  pub rise_at_all : (f : D → ℕ) → ((i : ℕ) (d : D) → i < length old → f (get_or old i d) ≤ f (get_or new i d)) → (i : ℕ) (d : D) → f (get_or old i d) ≤ f (get_or new i d)
  rise_at_all f rises i d = at (cases_lt i (length old))
    where
      at : (i < length old) ⊎ (length old ≤ i) → f (get_or old i d) ≤ f (get_or new i d)
      at (inl low) = rises i d low
      at (inr high) = let e = ap f (past i d high) in omega (arith, e)
