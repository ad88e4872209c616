-- Which entry closed an item, as a history goes on.
use Rattle.std.proofs.Common.{◌≡◌, ◌+◌, ◌<◌, ◌≤◌, ℕ, eqb, eq-eqb, eqb-true, ne_eqb, set, length-set, sym, Option, None, Bool, true, false, List, [], ◌∷◌, ◌++◌, refl, ap, ◌∙◌, cond, zero, suc, length, get_or, take, Some, arith}
use Rattle.std.proofs.lemmas.Grind.{get_or-set_at}
use Rattle.std.proofs.lemmas.List.{get_or-set_other, length-take-le, take_more}
use Rattle.std.proofs.lemmas.Option.{get_or_from_slice_get, slice_get_within}
use Rattle.std.specs.Prelude.{slice_get}
use Rattle.lock_transforms.specs.Entry.{Entry}
use Rattle.run_watch.specs.Watches.{closing_number, is_this, item_closed, one_further}

further_push : (k n : ℕ) (this last : Bool) → one_further (cond last (suc n) k) this ≡ cond last (suc (suc n)) (one_further k this)
further_push k n this true = refl
further_push k n this false = refl

closing-push : (u : ℕ) (xs : List Entry) (e : Entry) → closing_number u (xs ++ e ∷ []) ≡ cond (is_this u (item_closed e)) (suc (length xs)) (closing_number u xs)
closing-push u [] e = refl
closing-push u (x ∷ xs) e =
    ap (λ (k : ℕ). one_further k (is_this u (item_closed x))) (closing-push u xs e)
    ∙ further_push (closing_number u xs) (length xs) (is_this u (item_closed x)) (is_this u (item_closed e))

-- one entry further
pub closing_more : (u : ℕ) (h : List Entry) (n : ℕ) (e : Entry) → slice_get h n ≡ Some e
    → closing_number u (take (n + 1) h) ≡ cond (is_this u (item_closed e)) (n + 1) (closing_number u (take n h))
closing_more u h n e at =
    let within = slice_get_within h n e at in
    let here : get_or h n e ≡ e = get_or_from_slice_get h n e e at in
    let long : length (take n h) ≡ n = length-take-le n h (omega arith) in
    let count : suc (length (take n h)) ≡ n + 1 = omega arith in
    ap (λ (l : List Entry). closing_number u l) (take_more h n e within ∙ ap (λ (x : Entry). take n h ++ x ∷ []) here)
    ∙ (closing-push u (take n h) e ∙ ap (λ (k : ℕ). cond (is_this u (item_closed e)) k (closing_number u (take n h))) count)

further_within : (k n : ℕ) (this : Bool) → k ≤ n → one_further k this ≤ suc n
further_within (suc k) n this le = omega arith
further_within zero n true le = omega arith
further_within zero n false le = omega arith

-- an entry of the history closed it, if one did
pub closing_within : (u : ℕ) (h : List Entry) → closing_number u h ≤ length h
closing_within u [] = omega arith
closing_within u (e ∷ es) = further_within (closing_number u es) (length es) (is_this u (item_closed e)) (closing_within u es)

-- the closings of the first n entries are noted
abbrev pub AreNoted : List Entry → ℕ → List ℕ → Type 0
AreNoted h n xs = (u d : ℕ) → u < length xs → get_or xs u d ≡ closing_number u (take n h)

-- the entry closed nothing
pub noted_none : (h : List Entry) (n : ℕ) (e : Entry) (xs : List ℕ) → slice_get h n ≡ Some e → item_closed e ≡ None → AreNoted h n xs → AreNoted h (n + 1) xs
noted_none h n e xs at none are = λ u d low.
    are u d low ∙ sym (closing_more u h n e at ∙ ap (λ (o : Option ℕ). cond (is_this u o) (n + 1) (closing_number u (take n h))) none)

-- the entry closed an item behind the list
pub noted_past : (h : List Entry) (n : ℕ) (e : Entry) (xs : List ℕ) (v : ℕ) → slice_get h n ≡ Some e → item_closed e ≡ Some v → length xs ≤ v → AreNoted h n xs → AreNoted h (n + 1) xs
noted_past h n e xs v at some past are = λ u d low.
    let other : eqb v u ≡ false = ne_eqb v u (λ (same : v ≡ u). absurd (omega (arith, same, low, past))) in
    are u d low ∙ sym (closing_more u h n e at ∙ (ap (λ (o : Option ℕ). cond (is_this u o) (n + 1) (closing_number u (take n h))) some ∙ ap (λ (b : Bool). cond b (n + 1) (closing_number u (take n h))) other))

-- the entry closed an item of the list, and that was noted
pub noted_set : (h : List Entry) (n : ℕ) (e : Entry) (xs : List ℕ) (v : ℕ) → slice_get h n ≡ Some e → item_closed e ≡ Some v → v < length xs → AreNoted h n xs → AreNoted h (n + 1) (set xs v (n + 1))
noted_set h n e xs v at some within are = λ u d low.
    by_case u d (omega (arith, length-set xs v (n + 1), low)) (eqb v u) refl
    ∙ sym (closing_more u h n e at ∙ ap (λ (o : Option ℕ). cond (is_this u o) (n + 1) (closing_number u (take n h))) some)
  where
    by_case : (u d : ℕ) → u < length xs → (b : Bool) → eqb v u ≡ b → get_or (set xs v (n + 1)) u d ≡ cond b (n + 1) (closing_number u (take n h))
    by_case u d low true is = get_or-set_at xs v u (n + 1) d (sym (eqb-true v u is)) within
    by_case u d low false is = get_or-set_other xs v u (n + 1) d (λ (same : u ≡ v). let no : true ≡ false = sym (eq-eqb v u (sym same)) ∙ is in absurd (cc no)) ∙ are u d low
