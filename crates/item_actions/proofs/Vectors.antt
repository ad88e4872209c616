-- The lanes of the vectors in `words`.
use Rattle.std.proofs.Common.{◌≡◌, ℕ, zero, suc, ◌+◌, ◌-◌, ◌<◌, ◌++◌, List, Bool, true, false, cond, not, ◌&&◌, ◌||◌, leb, eqb, length, get_or, refl, sym, ap, ◌∙◌, arith, subst, bit_and, bit_or, bit_xor, length-append}
use Rattle.std.specs.Simd.Lanes.{pick_l}
use Rattle.std.proofs.lemmas.Simd.{pick_l-range_with_len, length-chunk, get_or-chunk}
use Rattle.std.specs.List.{range_with_len}
use Rattle.std.proofs.Math.ListN.{get_or-append}
use Rattle.std.proofs.lemmas.List.{get_or-append_right}
use Rattle.std.proofs.lemmas.Bool.Decides.{nat_tests}
use Rattle.memchr.specs.Lanes.{HasLanes}
use Rattle.item_actions.specs.Bytes.{is_space, follows_space, begins_word}

-- lanes that are f are g where f and g are equal below 32
pub HasLanes-as : (v : List ℕ) (f g : ℕ → ℕ) → HasLanes v f → ((k : ℕ) → k < 32 → f k ≡ g k) → HasLanes v g
HasLanes-as v f g h e = record { long = h.long; each = λ k l. h.each k l ∙ e k l }

pub space_lane : (a b c : Bool) → bit_or (cond a 255 0) (bit_and (cond b 255 0) (cond c 255 0)) ≡ cond (a || (b && c)) 255 0
space_lane true true true = refl
space_lane true true false = refl
space_lane true false true = refl
space_lane true false false = refl
space_lane false true true = refl
space_lane false true false = refl
space_lane false false true = refl
space_lane false false false = refl

pub start_lane : (s h : Bool) → leb 128 (bit_and (cond s 255 0) (bit_xor (cond h 255 0) 255)) ≡ (not h && s)
start_lane true true = refl
start_lane true false = refl
start_lane false true = refl
start_lane false false = refl

not_zero : (n : ℕ) → 0 < n → eqb n 0 ≡ false
not_zero n h = grind (arith, nat_tests)

later_lane : (before here : List ℕ) → length before ≡ 32 → (k : ℕ) → get_or (before ++ here) (31 + k) 0 ≡ cond (eqb k 0) (get_or before 31 0) (get_or here (k - 1) 0)
later_lane before here p zero = get_or-append before here 0 31 (omega arith)
later_lane before here p (suc j) =
    let no : eqb (suc j) 0 ≡ false = not_zero (suc j) (omega arith) in
    let e : 31 + suc j - 32 ≡ suc j - 1 = omega arith in
    get_or-append_right before here 32 (31 + suc j) 0 p (omega arith) ∙ ap (λ n. get_or here n 0) e
    ∙ sym (ap (λ t. cond t (get_or before 31 0) (get_or here (suc j - 1) 0)) no)

-- the lane of a word's start, from those of the space bytes here and before
pub begins_lane : (b before here : List ℕ) (at : ℕ) → get_or before 31 0 ≡ cond (follows_space b at) 255 0
    → HasLanes here (λ k. cond (is_space (get_or b (at + k) 0)) 255 0)
    → (k : ℕ) → k < 32
    → leb 128 (bit_and (cond (eqb k 0) (get_or before 31 0) (get_or here (k - 1) 0)) (bit_xor (get_or here k 0) 255)) ≡ begins_word b (at + k)
begins_lane b before here at last lanes zero l =
    let e : at + 0 ≡ at = omega arith in
    (λ i. leb 128 (bit_and (last i) (bit_xor (lanes.each 0 l i) 255)))
    ∙ start_lane (follows_space b at) (is_space (get_or b (at + 0) 0))
    ∙ ap (λ n. not (is_space (get_or b (at + 0) 0)) && follows_space b n) (sym e)
begins_lane b before here at last lanes (suc j) l =
    let e : at + suc j - 1 ≡ at + j = omega arith in
    let d : suc j - 1 ≡ j = omega arith in
    let ne : eqb (at + suc j) 0 ≡ false = not_zero (at + suc j) (omega arith) in
    let no : eqb (suc j) 0 ≡ false = not_zero (suc j) (omega arith) in
    (λ i. leb 128 (bit_and (cond (no i) (get_or before 31 0) (get_or here (suc j - 1) 0)) (bit_xor (get_or here (suc j) 0) 255)))
    ∙ (λ i. leb 128 (bit_and ((ap (λ n. get_or here n 0) d ∙ lanes.each j (omega arith)) i) (bit_xor (lanes.each (suc j) l i) 255)))
    ∙ start_lane (is_space (get_or b (at + j) 0)) (is_space (get_or b (at + suc j) 0))
    ∙ (λ i. not (is_space (get_or b (at + suc j) 0)) && (sym ne i || is_space (get_or b (sym e i) 0)))

-- the lanes from the last of the first vector on
pub later_lanes : (before here : List ℕ) → length before ≡ 32 → length here ≡ 32
    → HasLanes (pick_l 0 (before ++ here) (range_with_len 31 32)) (λ k. cond (eqb k 0) (get_or before 31 0) (get_or here (k - 1) 0))
later_lanes before here p q =
    let long : length (before ++ here) ≡ 64 = omega (arith, length-append before here) in
    subst (λ v. HasLanes v (λ k. cond (eqb k 0) (get_or before 31 0) (get_or here (k - 1) 0)))
    (sym (pick_l-range_with_len 0 (before ++ here) 31 32 (omega arith)))
    (record {
      long = length-chunk 31 32 (before ++ here) (omega arith);
      each = λ k l. get_or-chunk 31 32 (before ++ here) k 0 l ∙ later_lane before here p k;
    })

pub follows_last : (b : List ℕ) (at : ℕ) → ◌≡◌ {A = ℕ} (cond (is_space (get_or b (at + 31) 0)) 255 0) (cond (follows_space b (at + 32)) 255 0)
follows_last b at =
    let ne : eqb (at + 32) 0 ≡ false = not_zero (at + 32) (omega arith) in
    let e : at + 31 ≡ at + 32 - 1 = omega arith in
    (λ i. cond (sym ne i || is_space (get_or b (e i) 0)) 255 0)
