-- Texts for the numbers from 0 on, one after another.
use Rattle.std.proofs.Common.{◌≡◌, ℕ, zero, suc, ◌+◌, List, [], ◌∷◌, ◌++◌, map, if◌then◌else◌, refl, sym, ◌∙◌, ap, arith, append-nil, append_assoc, zero-add}
use Rattle.std.specs.List.{flat_map, range_with_len}
use Rattle.std.proofs.lemmas.Bool.{ne_eqb}
use Rattle.std.proofs.lemmas.List.FromFn.{map-range_with_len_more}
use Rattle.std.proofs.lemmas.List.Folds.{flat_map-map}
use Rattle.std.proofs.lemmas.Grind.{flat_map-append}
use Rattle.file_access.specs.SinkView.{SinkView}
use Rattle.file_access.specs.PageView.{PageView, Adds}
use Rattle.file_access.proofs.lemmas.Telling.{adds_as, adds_then}
use Rattle.generated_plan.specs.Made.{draws_before, draws_for_after}

pub flat_map-next : (f : ℕ → List ℕ) (n : ℕ) → flat_map f (range_with_len 0 (n + 1)) ≡ flat_map f (range_with_len 0 n) ++ f n
flat_map-next f n =
    let same : ℕ → ℕ = λ k. k in
    sym (flat_map-map f same (range_with_len 0 (n + 1)))
    ∙ ap (flat_map f) (map-range_with_len_more same 0 n n (zero-add n))
    ∙ flat_map-append f (map same (range_with_len 0 n)) (n ∷ [])
    ∙ ap (λ l. l ++ flat_map f (n ∷ [])) (flat_map-map f same (range_with_len 0 n))
    ∙ ap (λ l. flat_map f (range_with_len 0 n) ++ l) (append-nil (f n))

pub adds_next : {a b c : SinkView} {p q r : PageView} (f : ℕ → List ℕ) (n : ℕ) → Adds a p b q (flat_map f (range_with_len 0 n)) → Adds b q c r (f n) → Adds a p c r (flat_map f (range_with_len 0 (n + 1)))
adds_next f n before one = adds_as (sym (flat_map-next f n)) (adds_then before one)

-- the draws of a task come between those before it and those before the next
pub draws_before-next : (k : ℕ) → draws_before k + (11 + draws_for_after k) ≡ draws_before (k + 1)
draws_before-next zero = refl
draws_before-next (suc k) =
    let one : draws_for_after (suc k) ≡ 1 = ap (λ b. if b then 0 else 1) (ne_eqb (suc k) 0 (λ e. omega (arith, e))) in
    omega (arith, one)

-- four texts one after another
pub adds_four : {a b c d e : SinkView} {p q r s t : PageView} (w x y z : List ℕ) → Adds a p b q w → Adds b q c r x → Adds c r d s y → Adds d s e t z → Adds a p e t (w ++ x ++ y ++ z)
adds_four w x y z one two three four = adds_as (simp append_assoc) (adds_then (adds_then (adds_then one two) three) four)
