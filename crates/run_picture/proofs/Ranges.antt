-- The texts of numbers that follow one another.
use Rattle.std.proofs.Common.{◌≡◌, ℕ, ◌+◌, List, [], ◌∷◌, ◌++◌, map, sym, ap, ◌∙◌, append-nil, arith}
use Rattle.std.specs.List.{flat_map, range_with_len}
use Rattle.std.proofs.lemmas.List.FromFn.{map-range_with_len_more}
use Rattle.std.proofs.lemmas.List.Folds.{flat_map-map}
use Rattle.std.proofs.lemmas.Grind.{flat_map-append}
use Rattle.file_access.specs.SinkView.{SinkView}
use Rattle.file_access.specs.PageView.{PageView, Adds}
use Rattle.file_access.proofs.lemmas.Telling.{adds_as, adds_then}

one_more : (f : ℕ → List ℕ) (a n j : ℕ) → a + n ≡ j → flat_map f (range_with_len a (n + 1)) ≡ flat_map f (range_with_len a n) ++ f j
one_more f a n j is =
    let same : ℕ → ℕ = λ k. k in
    sym (flat_map-map f same (range_with_len a (n + 1)))
    ∙ ap (flat_map f) (map-range_with_len_more same a n j is)
    ∙ flat_map-append f (map same (range_with_len a n)) (j ∷ [])
    ∙ ap (λ l. l ++ flat_map f (j ∷ [])) (flat_map-map f same (range_with_len a n))
    ∙ ap (λ l. flat_map f (range_with_len a n) ++ l) (append-nil (f j))

-- the next number of a range from a on
pub adds_ranged : {p q r : SinkView} {x y z : PageView} (f : ℕ → List ℕ) (a n j : ℕ) → a + n ≡ j
    → Adds p x q y (flat_map f (range_with_len a n)) → Adds q y r z (f j) → Adds p x r z (flat_map f (range_with_len a (n + 1)))
adds_ranged f a n j is before one = adds_as (sym (one_more f a n j is)) (adds_then before one)

pub adds_counted : {p q r : SinkView} {x y z : PageView} (f : ℕ → List ℕ) (j : ℕ) → Adds p x q y (flat_map f (range_with_len 0 j)) → Adds q y r z (f j) → Adds p x r z (flat_map f (range_with_len 0 (j + 1)))
adds_counted f j before one = adds_as (sym (one_more f 0 j j (omega arith))) (adds_then before one)
