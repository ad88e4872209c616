-- The longest piece, line end by line end.
use Rattle.std.proofs.Common.{◌≡◌, ◌≢◌, ℕ, zero, suc, ◌+◌, ◌-◌, ◌<◌, ◌≤◌, List, [], ◌∷◌, true, false, not, eqb, max, length, get_or, drop, refl, sym, subst, ap, ◌∙◌, arith, ⊎_elim, length-drop}
use Rattle.std.proofs.lemmas.List.{drop-drop, get_or-drop}
use Rattle.std.proofs.lemmas.List.Sums.{prefix_len_is}
use Rattle.std.proofs.lemmas.Bool.{cases_Bool, cases_eq, cond-true, cond-false, eqb-true, eq-eqb, false≢true}
use Rattle.std.proofs.lemmas.Bool.Decides.{nat_tests}
use Rattle.memchr.specs.Find.{is_byte, places_from, places_between}
use Rattle.item_actions.specs.Bytes.{longest, run}

other : (x : ℕ) → x ≢ 10 → not (eqb x 10) ≡ true
other x h = grind (arith, nat_tests)

same : (x : ℕ) → x ≡ 10 → not (eqb x 10) ≡ false
same x h = ap (λ n. not (eqb n 10)) h

-- the run before the first newline
run_to : (xs : List ℕ) (at : ℕ) → at ≤ length xs → ((k : ℕ) → k < at → get_or xs k 0 ≢ 10) → (at < length xs → get_or xs at 0 ≡ 10) → run xs ≡ at
run_to xs at le before here = prefix_len_is (λ x. not (eqb x 10)) xs at 0 le (λ k l. other _ (before k l)) (λ l. same _ (here l))

shorter : (n m : ℕ) → max (suc n) (max n m) ≡ max (suc n) m
shorter n m = omega arith

longest_at : (xs : List ℕ) (at : ℕ) → at < length xs → get_or xs at 0 ≡ 10 → ((k : ℕ) → k < at → get_or xs k 0 ≢ 10) → longest xs ≡ max at (longest (drop (at + 1) xs))
unfolding longest
longest_at [] at lt is before = absurd (omega arith)
longest_at (x ∷ xs) zero lt is before = ap (λ n. max n (longest xs)) (run_to (x ∷ xs) 0 (omega arith) before (λ _. is))
longest_at (x ∷ xs) (suc n) lt is before =
    let r : run (x ∷ xs) ≡ suc n = run_to (x ∷ xs) (suc n) (omega arith) before (λ _. is) in
    let later : longest xs ≡ max n (longest (drop (n + 1) xs)) = longest_at xs n (omega arith) is (λ k l. before (suc k) (omega arith)) in
    let e : suc (n + 1) ≡ suc n + 1 = omega arith in
    (λ i. max (r i) (later i)) ∙ shorter n (longest (drop (n + 1) xs)) ∙ ap (λ k. max (suc n) (longest (drop k (x ∷ xs)))) e

longest_none : (xs : List ℕ) → ((k : ℕ) → k < length xs → get_or xs k 0 ≢ 10) → longest xs ≡ length xs
unfolding longest
longest_none [] none = refl
longest_none (x ∷ xs) none =
    let r : run (x ∷ xs) ≡ suc (length xs) = run_to (x ∷ xs) (suc (length xs)) (omega arith) none (λ l. absurd (omega arith)) in
    let later : longest xs ≡ length xs = longest_none xs (λ k l. none (suc k) (omega arith)) in
    (λ i. max (r i) (later i)) ∙ omega arith

line_end : (b : ℕ) → eqb b 10 ≡ false → b ≢ 10
line_end b other is = false≢true (sym other ∙ eq-eqb b 10 is)

-- the first of some line ends from place i on, and those after it
record IsFirstEnd (bytes : List ℕ) (i n p : ℕ) (ends : List ℕ) : Type 0 where
  low : i ≤ p
  high : p < i + n
  here : get_or bytes p 0 ≡ 10
  before : (k : ℕ) → i ≤ k → k < p → get_or bytes k 0 ≢ 10
  rest : ends ≡ places_from (is_byte 10) bytes (p + 1) (i + n - (p + 1))

first_end : (bytes : List ℕ) (i n p : ℕ) (ends : List ℕ) → p ∷ ends ≡ places_from (is_byte 10) bytes i n → IsFirstEnd bytes i n p ends
unfolding places_from
first_end bytes i zero p ends are = absurd (omega (arith, ap length are))
first_end bytes i (suc n) p ends are = ⊎_elim
    (λ found.
    let both = are ∙ cond-true _ _ _ found in
    let place : p ≡ i = ap (λ l. get_or l 0 0) both in
    let more : n ≡ i + suc n - (i + 1) = omega arith in
    record {
      low = omega arith;
      high = omega arith;
      here = ap (λ k. get_or bytes k 0) place ∙ eqb-true _ _ found;
      before = λ k low high. absurd (omega arith);
      rest = ap (drop 1) both ∙ ap (places_from (is_byte 10) bytes (i + 1)) more ∙ ap (λ k. places_from (is_byte 10) bytes (k + 1) (i + suc n - (k + 1))) (sym place);
    })
    (λ missing.
    let later = first_end bytes (i + 1) n p ends (are ∙ cond-false _ _ _ missing) in
    let more : i + 1 + n - (p + 1) ≡ i + suc n - (p + 1) = omega arith in
    record {
      low = omega (arith, later.low);
      high = omega (arith, later.high);
      here = later.here;
      before = λ k low high. ⊎_elim (λ first. subst (λ m. get_or bytes m 0 ≢ 10) (sym first) (line_end _ missing)) (λ other. later.before k (omega arith) high) (cases_eq k i);
      rest = later.rest ∙ ap (places_from (is_byte 10) bytes (p + 1)) more;
    })
    (cases_Bool (is_byte 10 (get_or bytes i 0)))

no_end : (bytes : List ℕ) (i n : ℕ) → [] ≡ places_from (is_byte 10) bytes i n → (k : ℕ) → i ≤ k → k < i + n → get_or bytes k 0 ≢ 10
unfolding places_from
no_end bytes i zero are k low high = absurd (omega arith)
no_end bytes i (suc n) are k low high = ⊎_elim
    (λ found. absurd (omega (arith, ap length (are ∙ cond-true _ _ _ found))))
    (λ missing. ⊎_elim
    (λ first. subst (λ m. get_or bytes m 0 ≢ 10) (sym first) (line_end _ missing))
    (λ other. no_end bytes (i + 1) n (are ∙ cond-false _ _ _ missing) k (omega arith) (omega arith))
    (cases_eq k i))
    (cases_Bool (is_byte 10 (get_or bytes i 0)))

-- a step over the line that ends at p
pub record IsStep (bytes : List ℕ) (from p : ℕ) (ends : List ℕ) : Type 0 where
  pub low : from ≤ p
  pub high : p < length bytes
  pub rest : ends ≡ places_between (is_byte 10) bytes (p + 1) (length bytes)
  pub longest_is : longest (drop from bytes) ≡ max (p - from) (longest (drop (p + 1) bytes))

pub step : (bytes : List ℕ) (from p : ℕ) (ends : List ℕ) → from ≤ length bytes → p ∷ ends ≡ places_between (is_byte 10) bytes from (length bytes) → IsStep bytes from p ends
step bytes from p ends within are =
    let first = first_end bytes from (length bytes - from) p ends are in
    let low = first.low in
    let high : p < length bytes = omega (arith, first.high) in
    let place : from + (p - from) ≡ p = omega arith in
    let next : from + (p - from + 1) ≡ p + 1 = omega arith in
    let left : from + (length bytes - from) - (p + 1) ≡ length bytes - (p + 1) = omega arith in
    record {
      low = low;
      high = high;
      rest = first.rest ∙ ap (places_from (is_byte 10) bytes (p + 1)) left;
      longest_is = longest_at (drop from bytes) (p - from) (omega (arith, length-drop from bytes))
          (get_or-drop from bytes (p - from) 0 ∙ ap (λ k. get_or bytes k 0) place ∙ first.here)
          (λ k below is. first.before (from + k) (omega arith) (omega arith) (sym (get_or-drop from bytes k 0) ∙ is))
          ∙ ap (λ rest. max (p - from) (longest rest)) (drop-drop (p - from + 1) from bytes ∙ ap (λ k. drop k bytes) next);
    }

-- no line ends: the rest is one piece
pub last_piece : (bytes : List ℕ) (from : ℕ) → from ≤ length bytes → [] ≡ places_between (is_byte 10) bytes from (length bytes) → longest (drop from bytes) ≡ length bytes - from
last_piece bytes from within are =
    longest_none (drop from bytes) (λ k below is.
    let inside : from + k < from + (length bytes - from) = omega (arith, length-drop from bytes) in
    no_end bytes from (length bytes - from) are (from + k) (omega arith) inside (sym (get_or-drop from bytes k 0) ∙ is))
    ∙ length-drop from bytes
