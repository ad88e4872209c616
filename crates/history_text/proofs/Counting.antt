-- One more task or unit counted.
use Rattle.std.proofs.Common.{◌≡◌, ℕ, ◌+◌, ◌≤◌, Bool, cond, if◌then◌else◌, ap, ◌∙◌, arith}
use Rattle.std.specs.List.{count_by, sum_by}
use Rattle.std.proofs.lemmas.List.Sums.{count_by-le-length}
use Rattle.std.proofs.lemmas.List.FromFn.{sum_by-map-range_with_len_more, length-map-range_with_len}
use Rattle.history_text.specs.Results.{below}

pub sum_below-next : {X : Type 0} (g : X → ℕ) (f : ℕ → X) (n : ℕ) → sum_by g (below (n + 1) f) ≡ sum_by g (below n f) + g (f n)
sum_below-next g f n = sum_by-map-range_with_len_more g f 0 n n (omega arith)

pub counted : {X : Type 0} (test : X → Bool) (f : ℕ → X) (n old new : ℕ) (x : X) → old ≡ count_by test (below n f) → x ≡ f n → new ≡ old + (if test x then 1 else 0) → new ≡ count_by test (below (n + 1) f)
counted test f n old new x so_far is one =
    let next : count_by test (below (n + 1) f) ≡ count_by test (below n f) + (if test (f n) then 1 else 0) = sum_below-next (λ y. cond (test y) 1 0) f n in
    let here : new ≡ old + (if test (f n) then 1 else 0) = one ∙ ap (λ y. old + (if test y then 1 else 0)) is in
    omega (arith, next, here, so_far)

pub count_below-le : {X : Type 0} (test : X → Bool) (f : ℕ → X) (n : ℕ) → count_by test (below n f) ≤ n
count_below-le test f n = omega (arith, count_by-le-length test (below n f), length-map-range_with_len f 0 n)
