-- There is one least order at most.
use Rattle.std.proofs.Common.{◌≡◌, ℕ, List, get_or, sym, ap, arith, inl, inr}
use Rattle.std.proofs.lemmas.Bool.{cases_lt}
use Rattle.task_ordering.specs.Orders.{IsLesser, IsLeastOrder}

not_both_lesser : (xs ys : List ℕ) → IsLesser xs ys → IsLesser ys xs → ⊥
not_both_lesser xs ys p q = elim (cases_lt p.place q.place) [
  | inl before ↦ omega (arith, q.same p.place before, p.smaller)
  | inr from ↦ elim (cases_lt q.place p.place) [
    | inl after ↦ omega (arith, p.same q.place after, q.smaller)
    | inr upto ↦
        let at : p.place ≡ q.place = omega (arith, from, upto) in
        let x : get_or xs p.place 0 ≡ get_or xs q.place 0 = ap (λ k. get_or xs k 0) at in
        let y : get_or ys p.place 0 ≡ get_or ys q.place 0 = ap (λ k. get_or ys k 0) at in
        omega (arith, x, y, p.smaller, q.smaller)
  ]
]

pub one_least : (M : ℕ → Type 0) (B : ℕ → ℕ → Type 0) (xs ys : List ℕ) → IsLeastOrder M B xs → IsLeastOrder M B ys → xs ≡ ys
one_least M B xs ys p q = elim (p.least ys q.order) [
  | inl same ↦ same
  | inr lesser ↦ elim (q.least xs p.order) [ inl same ↦ sym same | inr other ↦ absurd (not_both_lesser xs ys lesser other) ]
]
