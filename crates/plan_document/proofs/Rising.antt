-- The keys of a row that rise from each to the next.
use Rattle.std.proofs.Common.{◌≡◌, ℕ, ◌+◌, ◌-◌, ◌<◌, ◌≤◌, List, [], ◌∷◌, length, map, get_or, string_cmp, Less, inl, inr, ap, ◌∙◌, arith}
use Rattle.std.proofs.lemmas.Bool.{cases_lt}
use Rattle.std.proofs.lemmas.List.{get_or_default, get_or-map, length-map}
use Rattle.std.proofs.lemmas.Map.Keys.{sorted_from_all_adjacent}
use Rattle.std.specs.List.Sorted.{IsStrictlySortedBy}
use Rattle.std.specs.String.{string_cmp_total}
use Rattle.plan_document.proofs.Views.{Entry}

-- each of the first n keys is below the next of them
abbrev pub RisesBelow : List Entry → ℕ → Type 0
RisesBelow es n = (k : ℕ) (d : Entry) → k + 1 < n → string_cmp (get_or es k d).0 (get_or es (k + 1) d).0 ≡ Less

pub rises_more : (es : List Entry) (n : ℕ) (a b : Entry) → 1 ≤ n → n < length es → string_cmp (get_or es (n - 1) a).0 (get_or es n b).0 ≡ Less → RisesBelow es n → RisesBelow es (n + 1)
rises_more es n a b low within less so_far k d below =
    elim (cases_lt (k + 1) n) [
      | inl before ↦ so_far k d before
      | inr past ↦ by (omega arith) (omega arith)
    ]
  where
    by : k ≡ n - 1 → k + 1 ≡ n → string_cmp (get_or es k d).0 (get_or es (k + 1) d).0 ≡ Less
    by here there =
        ap (λ x. string_cmp x.0 (get_or es (k + 1) d).0) (ap (λ i. get_or es i d) here ∙ get_or_default es (n - 1) d a (omega arith))
        ∙ ap (λ x. string_cmp (get_or es (n - 1) a).0 x.0) (ap (λ i. get_or es i d) there ∙ get_or_default es n d b within)
        ∙ less

pub rises_all : (es : List Entry) (n : ℕ) → length es ≤ n → RisesBelow es n → IsStrictlySortedBy string_cmp (map (λ e. e.0) es)
unfolding IsStrictlySortedBy
rises_all [] n past below = tt
rises_all (e ∷ es) n past below =
    sorted_from_all_adjacent string_cmp_total (map (λ x. x.0) (e ∷ es)) e.0 (λ k more.
    let long : k + 1 < length (e ∷ es) = rw (length-map (e ∷ es) (λ x. x.0)) at more in
    ap (λ x. string_cmp x (get_or (map (λ y. y.0) (e ∷ es)) (k + 1) e.0)) (get_or-map (λ x. x.0) (e ∷ es) k e e.0 (omega arith))
    ∙ ap (string_cmp (get_or (e ∷ es) k e).0) (get_or-map (λ x. x.0) (e ∷ es) (k + 1) e e.0 long)
    ∙ below k e (omega arith))
