-- Lists as ranges of one: with one more behind, and the one at a place.
use Rattle.std.proofs.Common.{◌≡◌, ℕ, zero, suc, ◌-◌, ◌<◌, ◌≤◌, List, [], ◌∷◌, ◌++◌, length, take, drop, refl, sym, ap, ◌∙◌, arith}
use Rattle.std.specs.List.{slice_index_or, slice_range}
use Rattle.std.proofs.lemmas.List.{drop_at, drop-append-le, length-append, length-drop, take_all, take-append-le}
use Rattle.resource_lock.specs.NumberLists.{AreEnds, lists_from, start_at}

pub length-lists_from : (ns : List ℕ) (start : ℕ) (es : List ℕ) → length (lists_from ns start es) ≡ length es
length-lists_from ns start [] = refl
length-lists_from ns start (e ∷ es) = ap suc (length-lists_from ns e es)

ends_within : (n start : ℕ) (es : List ℕ) → AreEnds n start es → start ≤ n
ends_within n start [] h = omega (arith, h)
ends_within n start (e ∷ es) h = omega (arith, h.0, ends_within n e es h.1)

range-append : (ns more : List ℕ) (a b : ℕ) → a ≤ b → b ≤ length ns → slice_range (ns ++ more) a b ≡ slice_range ns a b
range-append ns more a b ordered bounded =
    let start : a ≤ length ns = omega arith in
    let long : b - a ≤ length (drop a ns) = omega (arith, length-drop a ns) in
    ap (take (b - a)) (drop-append-le a ns more start) ∙ take-append-le (b - a) (drop a ns) more long

range-new : (ns more : List ℕ) (a : ℕ) → a ≡ length ns → slice_range (ns ++ more) a (length (ns ++ more)) ≡ more
range-new ns more a start =
    let long : length more ≤ length (ns ++ more) - a = omega (arith, length-append ns more) in
    ap (take (length (ns ++ more) - a)) (drop_at ns more a (sym start)) ∙ take_all (length (ns ++ more) - a) more long

-- one more list, whose numbers stand behind the others
pub lists_push : (ns more : List ℕ) (start : ℕ) (es : List ℕ) → AreEnds (length ns) start es → lists_from (ns ++ more) start (es ++ length (ns ++ more) ∷ []) ≡ lists_from ns start es ++ more ∷ []
lists_push ns more start [] h = ap (λ l. l ∷ []) (range-new ns more start h)
lists_push ns more start (e ∷ es) h =
    ap (λ l. l ∷ lists_from (ns ++ more) e (es ++ length (ns ++ more) ∷ [])) (range-append ns more start e h.0 (ends_within (length ns) e es h.1))
    ∙ ap (λ ls. slice_range ns start e ∷ ls) (lists_push ns more e es h.1)

pub ends_push : (ns more : List ℕ) (start : ℕ) (es : List ℕ) → AreEnds (length ns) start es → AreEnds (length (ns ++ more)) start (es ++ length (ns ++ more) ∷ [])
ends_push ns more start [] h = (omega (arith, h, length-append ns more), refl)
ends_push ns more start (e ∷ es) h = (h.0, ends_push ns more e es h.1)

-- the list at a place, and its range
pub list_at : (ns : List ℕ) (start : ℕ) (es : List ℕ) (i : ℕ) → i < length es → slice_index_or (lists_from ns start es) i [] ≡ slice_range ns (start_at start es i) (slice_index_or es i 0)
list_at ns start [] i lt = absurd (omega (arith, lt))
list_at ns start (e ∷ es) zero lt = refl
list_at ns start (e ∷ es) (suc zero) lt = list_at ns e es zero (omega (arith, lt))
list_at ns start (e ∷ es) (suc (suc i)) lt = list_at ns e es (suc i) (omega (arith, lt))

pub range_at : (n start : ℕ) (es : List ℕ) (i : ℕ) → AreEnds n start es → i < length es → (start_at start es i ≤ slice_index_or es i 0) × (slice_index_or es i 0 ≤ n)
range_at n start [] i h lt = absurd (omega (arith, lt))
range_at n start (e ∷ es) zero h lt = (h.0, ends_within n e es h.1)
range_at n start (e ∷ es) (suc zero) h lt = range_at n e es zero h.1 (omega (arith, lt))
range_at n start (e ∷ es) (suc (suc i)) h lt = range_at n e es (suc i) h.1 (omega (arith, lt))
