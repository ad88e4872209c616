-- What stands at the places of a list.
use Rattle.std.proofs.Common.{◌≡◌, ◌⊎◌, ℕ, List, [], ◌∷◌, ◌++◌, length, get_or, sym, ap, ◌∙◌, arith, inl, inr, Contains, length-append}
use Rattle.std.proofs.lemmas.Bool.{cases_lt}
use Rattle.std.proofs.lemmas.List.{get_or_default}
use Rattle.std.proofs.Math.ListN.{get_or-append}
use Rattle.std.proofs.Math.Seq.{get_or-append_seam}
use Rattle.task_ordering.specs.Orders.{StandsAt}

pub at_contains : (xs : List ℕ) (k t : ℕ) → StandsAt xs k t → Contains xs t
at_contains xs k t s = (k, s.within, get_or_default xs k t 0 s.within ∙ s.is)

pub contains_at : (xs : List ℕ) (t : ℕ) → Contains xs t → (k : ℕ) × StandsAt xs k t
contains_at xs t c = (c.0, record { within = c.1; is = get_or_default xs c.0 0 t c.1 ∙ c.2 })

-- one more number at the end
pub at_push : (xs : List ℕ) (g k t : ℕ) → StandsAt xs k t → StandsAt (xs ++ g ∷ []) k t
at_push xs g k t s = record {
  within = omega (arith, s.within, length-append xs (g ∷ []));
  is = get_or-append xs (g ∷ []) 0 k s.within ∙ s.is;
}

pub at_cases : (xs : List ℕ) (g k t : ℕ) → StandsAt (xs ++ g ∷ []) k t → StandsAt xs k t ⊎ ((k ≡ length xs) × (t ≡ g))
at_cases xs g k t s = elim (cases_lt k (length xs)) [
  | inl low ↦ inl (record { within = low; is = sym (get_or-append xs (g ∷ []) 0 k low) ∙ s.is })
  | inr high ↦
      let at : k ≡ length xs = omega (arith, high, s.within, length-append xs (g ∷ [])) in
      inr (at, sym s.is ∙ ap (λ i. get_or (xs ++ g ∷ []) i 0) at ∙ get_or-append_seam xs g [] 0)
]
