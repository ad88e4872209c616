-- Counts over a range of places.
use Rattle.std.proofs.Common.{◌≡◌, ℕ, zero, suc, ◌+◌, ◌<◌, ◌≤◌, ◌++◌, List, [], ◌∷◌, Bool, true, false, cond, length, get_or, count_by, take, drop, ◌-◌, refl, sym, ap, ◌∙◌, arith}
use Rattle.std.proofs.lemmas.Bool.{false≢true}
use Rattle.std.specs.List.{range_with_len}
use Rattle.std.proofs.Math.Seq.{take-add}
use Rattle.std.proofs.lemmas.List.Sums.{sum_by-cons, sum_by-append, count_by-le-length}
use Rattle.std.proofs.lemmas.List.FromFn.{length-range_with_len}

range-add : (a m n : ℕ) → range_with_len a (m + n) ≡ range_with_len a m ++ range_with_len (a + m) n
range-add a zero n =
    let e : a ≡ a + 0 = omega arith in
    let d : 0 + n ≡ n = omega arith in
    (λ i. range_with_len (e i) (d i))
range-add a (suc m) n =
    let e : a + 1 + m ≡ a + suc m = omega arith in
    let d : suc m + n ≡ suc (m + n) = omega arith in
    ap (range_with_len a) d ∙ ap (λ l. a ∷ l) (range-add (a + 1) m n ∙ ap (λ k. range_with_len (a + 1) m ++ range_with_len k n) e)

pub count_range-add : (q : ℕ → Bool) (a m n : ℕ) → count_by q (range_with_len a (m + n)) ≡ count_by q (range_with_len a m) + count_by q (range_with_len (a + m) n)
count_range-add q a m n = ap (count_by q) (range-add a m n) ∙ sum_by-append (λ x. cond (q x) 1 0) (range_with_len a m) (range_with_len (a + m) n)

one_place : (q : ℕ → Bool) (a : ℕ) → count_by q (range_with_len a 1) ≡ cond (q a) 1 0
one_place q a = sum_by-cons (λ x. cond (q x) 1 0) a [] ∙ omega arith

pub count_range-one : (q : ℕ → Bool) (n : ℕ) → count_by q (range_with_len 0 (n + 1)) ≡ count_by q (range_with_len 0 n) + cond (q n) 1 0
count_range-one q n =
    let e : 0 + n ≡ n = omega arith in
    count_range-add q 0 n 1 ∙ ap (λ k. count_by q (range_with_len 0 n) + k) (ap (λ k. count_by q (range_with_len k 1)) e ∙ one_place q n)

pub count_range-le : (q : ℕ → Bool) (a n : ℕ) → count_by q (range_with_len a n) ≤ n
count_range-le q a n = omega (arith, count_by-le-length q (range_with_len a n), length-range_with_len a n)

-- a count of lanes is one of places
pub count_lanes : (p q : ℕ → Bool) (v : List ℕ) (a : ℕ) → ((k : ℕ) → k < length v → p (get_or v k 0) ≡ q (a + k)) → count_by p v ≡ count_by q (range_with_len a (length v))
count_lanes p q [] a e = refl
count_lanes p q (x ∷ xs) a e =
    let first : p x ≡ q a = e 0 (omega arith) ∙ ap q (omega arith) in
    let rest : count_by p xs ≡ count_by q (range_with_len (a + 1) (length xs)) = count_lanes p q xs (a + 1) (λ k l. e (suc k) (omega arith) ∙ ap q (omega arith)) in
    sum_by-cons (λ y. cond (p y) 1 0) x xs ∙ (λ i. cond (first i) 1 0 + rest i) ∙ sym (sum_by-cons (λ y. cond (q y) 1 0) a (range_with_len (a + 1) (length xs)))

-- a longer front counts what the shorter one does, and what comes after it
pub count_take-more : (q : ℕ → Bool) (b : List ℕ) (m n : ℕ) → m ≤ n → count_by q (take n b) ≡ count_by q (take m b) + count_by q (take (n - m) (drop m b))
count_take-more q b m n le =
    let e : n ≡ m + (n - m) = omega arith in
    ap (λ k. count_by q (take k b)) e ∙ ap (count_by q) (take-add m (n - m) b) ∙ sum_by-append (λ x. cond (q x) 1 0) (take m b) (take (n - m) (drop m b))

-- a count of places where the test fails
pub count_range-none : (q : ℕ → Bool) (a n : ℕ) → ((k : ℕ) → a ≤ k → k < a + n → q k ≡ false) → count_by q (range_with_len a n) ≡ 0
count_range-none q a zero none = refl
count_range-none q a (suc n) none =
    sum_by-cons (λ x. cond (q x) 1 0) a (range_with_len (a + 1) n)
    ∙ (λ i. cond (none a (omega arith) (omega arith) i) 1 0 + count_range-none q (a + 1) n (λ k low high. none k (omega arith) (omega arith)) i)

one_or_none : (p q : Bool) → (q ≡ true → p ≡ true) → ◌≤◌ (cond q 1 0) (cond p 1 0)
one_or_none true true h = omega arith
one_or_none true false h = omega arith
one_or_none false true h = absurd (false≢true (h refl))
one_or_none false false h = omega arith

-- a stricter test counts no more
pub count_by-stricter : (p q : ℕ → Bool) → ((x : ℕ) → q x ≡ true → p x ≡ true) → (xs : List ℕ) → count_by q xs ≤ count_by p xs
count_by-stricter p q h [] = omega arith
count_by-stricter p q h (x ∷ xs) =
    omega (arith, sum_by-cons (λ y. cond (q y) 1 0) x xs, sum_by-cons (λ y. cond (p y) 1 0) x xs, one_or_none (p x) (q x) (h x), count_by-stricter p q h xs)

-- tests that are the same at each place count the same
pub count_range-same : (p q : ℕ → Bool) (a n : ℕ) → ((k : ℕ) → a ≤ k → k < a + n → p k ≡ q k) → count_by p (range_with_len a n) ≡ count_by q (range_with_len a n)
count_range-same p q a zero same = refl
count_range-same p q a (suc n) same =
    sum_by-cons (λ x. cond (p x) 1 0) a (range_with_len (a + 1) n)
    ∙ (λ i. cond (same a (omega arith) (omega arith) i) 1 0 + count_range-same p q (a + 1) n (λ k low high. same k (omega arith) (omega arith)) i)
    ∙ sym (sum_by-cons (λ x. cond (q x) 1 0) a (range_with_len (a + 1) n))
