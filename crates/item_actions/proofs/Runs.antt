-- Runs by pieces are the runs of the whole.
use Rattle.std.proofs.Common.{◌≡◌, ◌≢◌, ℕ, zero, suc, ◌+◌, ◌-◌, ◌<◌, ◌≤◌, ◌^◌, ◌++◌, List, [], ◌∷◌, Bool, true, false, cond, not, eqb, max, min, length, get_or, refl, sym, ap, ◌∙◌, arith}
use Rattle.std.proofs.lemmas.List.Sums.{prefix_len_is}
use Rattle.item_actions.specs.Bytes.{longest, run}
use Rattle.item_actions.specs.Runs.{HasRuns, longest_after, last_run}

run_step : (b : Bool) (n r l a0 a1 : ℕ) → a0 ≡ max (0 + r) l → a1 ≡ max (n + 1 + r) l → r ≤ l → cond b (max n a0) a1 ≡ max (n + cond (not b) (1 + r) 0) (max (cond (not b) (1 + r) 0) l)
run_step true n r l a0 a1 e0 e1 le = omega arith
run_step false n r l a0 a1 e0 e1 le = omega arith

run_few : (xs : List ℕ) → run xs ≤ longest xs
unfolding longest
run_few [] = omega arith
run_few (x ∷ xs) = omega arith

-- the first run goes on from the bytes before
after_run : (n : ℕ) (xs : List ℕ) → longest_after n xs ≡ max (n + run xs) (longest xs)
unfolding longest_after longest
after_run n [] = omega arith
after_run n (x ∷ xs) = run_step (eqb x 10) n (run xs) (longest xs) (longest_after 0 xs) (longest_after (n + 1) xs) (after_run 0 xs) (after_run (n + 1) xs) (run_few xs)

pub whole_runs : (xs : List ℕ) → longest xs ≡ longest_after 0 xs
whole_runs xs = omega (arith, after_run 0 xs, run_few xs)

before_step : (b : Bool) (n a0 a1 : ℕ) → n + 1 ≤ a1 → n ≤ cond b (max n a0) a1
before_step true n a0 a1 le = omega arith
before_step false n a0 a1 le = omega arith

before_few : (n : ℕ) (xs : List ℕ) → n ≤ longest_after n xs
unfolding longest_after
before_few n [] = omega arith
before_few n (x ∷ xs) = before_step (eqb x 10) n (longest_after 0 xs) (longest_after (n + 1) xs) (before_few (n + 1) xs)

append_step : (b : Bool) (n w0 w1 f0 f1 r0 r1 : ℕ) (ys : List ℕ) → w0 ≡ max f0 (longest_after r0 ys) → w1 ≡ max f1 (longest_after r1 ys)
    → cond b (max n w0) w1 ≡ max (cond b (max n f0) f1) (longest_after (cond b r0 r1) ys)
append_step true n w0 w1 f0 f1 r0 r1 ys e0 e1 = omega arith
append_step false n w0 w1 f0 f1 r0 r1 ys e0 e1 = e1

longest_append : (n : ℕ) (xs ys : List ℕ) → longest_after n (xs ++ ys) ≡ max (longest_after n xs) (longest_after (last_run n xs) ys)
unfolding longest_after last_run
longest_append n [] ys = omega (arith, before_few n ys)
longest_append n (x ∷ xs) ys =
    append_step (eqb x 10) n (longest_after 0 (xs ++ ys)) (longest_after (n + 1) (xs ++ ys)) (longest_after 0 xs) (longest_after (n + 1) xs) (last_run 0 xs) (last_run (n + 1) xs) ys
    (longest_append 0 xs ys) (longest_append (n + 1) xs ys)

last_step : (b : Bool) (w0 w1 r0 r1 : ℕ) (ys : List ℕ) → w0 ≡ last_run r0 ys → w1 ≡ last_run r1 ys → cond b w0 w1 ≡ last_run (cond b r0 r1) ys
last_step true w0 w1 r0 r1 ys e0 e1 = e0
last_step false w0 w1 r0 r1 ys e0 e1 = e1

last_append : (n : ℕ) (xs ys : List ℕ) → last_run n (xs ++ ys) ≡ last_run (last_run n xs) ys
unfolding last_run
last_append n [] ys = refl
last_append n (x ∷ xs) ys =
    last_step (eqb x 10) (last_run 0 (xs ++ ys)) (last_run (n + 1) (xs ++ ys)) (last_run 0 xs) (last_run (n + 1) xs) ys (last_append 0 xs ys) (last_append (n + 1) xs ys)

long_step : (b : Bool) (n l a0 a1 : ℕ) → a0 ≤ 0 + l → a1 ≤ n + 1 + l → cond b (max n a0) a1 ≤ n + suc l
long_step true n l a0 a1 e0 e1 = omega arith
long_step false n l a0 a1 e0 e1 = omega arith

longest_few : (n : ℕ) (xs : List ℕ) → longest_after n xs ≤ n + length xs
unfolding longest_after
longest_few n [] = omega arith
longest_few n (x ∷ xs) = long_step (eqb x 10) n (length xs) (longest_after 0 xs) (longest_after (n + 1) xs) (longest_few 0 xs) (longest_few (n + 1) xs)

short_step : (b : Bool) (n l a0 a1 : ℕ) → a0 ≤ 0 + l → a1 ≤ n + 1 + l → cond b a0 a1 ≤ n + suc l
short_step true n l a0 a1 e0 e1 = omega arith
short_step false n l a0 a1 e0 e1 = omega arith

last_few : (n : ℕ) (xs : List ℕ) → last_run n xs ≤ n + length xs
unfolding last_run
last_few n [] = omega arith
last_few n (x ∷ xs) = short_step (eqb x 10) n (length xs) (last_run 0 xs) (last_run (n + 1) xs) (last_few 0 xs) (last_few (n + 1) xs)

-- where no line end stands, the run goes on
on_step : (b : Bool) (n r l a0 a1 : ℕ) → (suc r ≡ suc l → a1 ≡ n + 1 + l) → cond (not b) (1 + r) 0 ≡ suc l → cond b a0 a1 ≡ n + suc l
on_step true n r l a0 a1 later all = absurd (omega arith)
on_step false n r l a0 a1 later all = omega (arith, later (omega arith))

last_on : (n : ℕ) (xs : List ℕ) → run xs ≡ length xs → last_run n xs ≡ n + length xs
unfolding last_run
last_on n [] all = omega arith
last_on n (x ∷ xs) all = on_step (eqb x 10) n (run xs) (length xs) (last_run 0 xs) (last_run (n + 1) xs) (λ e. last_on (n + 1) xs (omega arith)) all

longest_on : (xs : List ℕ) → longest xs ≤ length xs
longest_on xs = omega (arith, whole_runs xs, longest_few 0 xs)

-- where one stands, the last run begins behind one
off_step : (b : Bool) (r l a0 a1 c1 : ℕ) → (1 + r < suc l → a1 ≡ c1) → cond (not b) (1 + r) 0 < suc l → cond b a0 a1 ≡ cond b a0 c1
off_step true r l a0 a1 c1 later some = refl
off_step false r l a0 a1 c1 later some = later some

last_off : (n m : ℕ) (xs : List ℕ) → run xs < length xs → last_run n xs ≡ last_run m xs
unfolding last_run
last_off n m [] some = absurd (omega arith)
last_off n m (x ∷ xs) some =
    off_step (eqb x 10) (run xs) (length xs) (last_run 0 xs) (last_run (n + 1) xs) (last_run (m + 1) xs) (λ l. last_off (n + 1) (m + 1) xs (omega arith)) some

-- the state after one piece more, which has no line end
pub runs_on : (before last : ℕ) (bytes piece : List ℕ) (first sum new : ℕ) → length bytes + length piece < 2 ^ 64 → first ≡ run piece → first ≡ length piece
    → sum ≡ min (last + first) (2 ^ 64 - 1) → new ≡ max before sum
    → HasRuns record { longest = before; last = last } bytes → HasRuns record { longest = new; last = sum } (bytes ++ piece)
runs_on before last bytes piece first sum new fits is all summed best h =
    let after : longest_after (last_run 0 bytes) piece ≡ longest_after last piece = ap (λ n. longest_after n piece) (sym h.last) in
    let goes : last_run (last_run 0 bytes) piece ≡ last_run last piece = ap (λ n. last_run n piece) (sym h.last) in
    let few = last_few 0 bytes in
    record {
      longest = omega (arith, longest_append 0 bytes piece, after, after_run last piece, longest_on piece, few, h.longest, h.last);
      last = omega (arith, last_append 0 bytes piece, goes, last_on last piece (omega arith), few, h.last);
    }

-- the same where it has one
pub runs_off : (before last : ℕ) (bytes piece : List ℕ) (first sum best inner new end : ℕ) → length bytes + length piece < 2 ^ 64 → first ≡ run piece → first < length piece
    → sum ≡ min (last + first) (2 ^ 64 - 1) → best ≡ max before sum → inner ≡ longest piece → new ≡ max best inner → end ≡ last_run 0 piece
    → HasRuns record { longest = before; last = last } bytes → HasRuns record { longest = new; last = end } (bytes ++ piece)
runs_off before last bytes piece first sum best inner new end fits is some summed bests inners news ends h =
    let after : longest_after (last_run 0 bytes) piece ≡ longest_after last piece = ap (λ n. longest_after n piece) (sym h.last) in
    let few = last_few 0 bytes in
    record {
      longest = omega (arith, longest_append 0 bytes piece, after, after_run last piece, few, h.longest, h.last);
      last = ends ∙ last_off 0 (last_run 0 bytes) piece (omega arith) ∙ sym (last_append 0 bytes piece);
    }

not_true : (b : Bool) → (b ≡ true → ⊥) → not b ≡ true
not_true true = λ no. absurd (no refl)
not_true false = λ _. refl

-- the first line end ends the first run
pub first_at : (xs : List ℕ) (at : ℕ) → at ≤ length xs → ((k : ℕ) → k < at → ¬ (eqb (get_or xs k 0) 10 ≡ true)) → (at < length xs → eqb (get_or xs at 0) 10 ≡ true) → at ≡ run xs
first_at xs at le before here =
    sym (prefix_len_is (λ x. not (eqb x 10)) xs at 0 le (λ k l. not_true _ (before k l)) (λ l. ap not (here l)))

both_ways : (b : Bool) (a0 a1 v : ℕ) → a0 ≡ v → a1 ≡ v → cond b a0 a1 ≡ v
both_ways true a0 a1 v e0 e1 = e0
both_ways false a0 a1 v e0 e1 = e1

-- the last line end begins the last run
pub last_at : (n : ℕ) (xs : List ℕ) (at : ℕ) → at < length xs → eqb (get_or xs at 0) 10 ≡ true → ((k : ℕ) → at < k → k < length xs → ¬ (eqb (get_or xs k 0) 10 ≡ true)) → last_run n xs ≡ length xs - (at + 1)
unfolding last_run
last_at n [] at lt here after = absurd (omega arith)
last_at n (x ∷ xs) zero lt here after =
    let all : run xs ≡ length xs = sym (first_at xs (length xs) (omega arith) (λ k l. after (suc k) (omega arith) (omega arith)) (λ l. absurd (omega arith))) in
    let end : 0 + length xs ≡ suc (length xs) - (0 + 1) = omega arith in
    ap (λ b. cond b (last_run 0 xs) (last_run (n + 1) xs)) here ∙ last_on 0 xs all ∙ end
last_at n (x ∷ xs) (suc at) lt here after =
    let end : length xs - (at + 1) ≡ suc (length xs) - (suc at + 1) = omega arith in
    both_ways (eqb x 10) (last_run 0 xs) (last_run (n + 1) xs) _
    (last_at 0 xs at (omega arith) here (λ k low high. after (suc k) (omega arith) (omega arith)) ∙ end)
    (last_at (n + 1) xs at (omega arith) here (λ k low high. after (suc k) (omega arith) (omega arith)) ∙ end)

-- where there is none, all is one run
pub last_none : (xs : List ℕ) → ((k : ℕ) → k < length xs → ¬ (eqb (get_or xs k 0) 10 ≡ true)) → length xs ≡ last_run 0 xs
last_none xs none =
    let all : run xs ≡ length xs = sym (first_at xs (length xs) (omega arith) none (λ l. absurd (omega arith))) in
    omega (arith, last_on 0 xs all)

run_most : (xs : List ℕ) → run xs ≤ length xs
run_most xs = omega (arith, run_few xs, longest_on xs)

-- a first run that isn't all of the bytes
pub run_short : (xs : List ℕ) (first : ℕ) → first ≡ run xs → first ≢ length xs → first < length xs
run_short xs first is other = omega (arith, run_most xs)
