-- Tasks in an order in which each stands behind those that it comes after, and the numbers that it gives them.
use Rattle.std.proofs.Common.{◌≡◌, ◌<◌, ◌≤◌, ℕ, zero, suc, Bool, true, false, cond, List, [], ◌∷◌, length, get_or, refl, ◌∙◌, arith, inl, inr, Contains, None, subst}
use Rattle.std.specs.Bool.{⊤}
use Rattle.std.specs.List.{AllByRecursion, list_any, IsDistinct}
use Rattle.std.proofs.Math.Dec.{eqb}
use Rattle.std.proofs.lemmas.Bool.{cases_Bool, cases_lt, both_ways}
use Rattle.std.proofs.lemmas.Bool.Decides.{eqb_tells}
use Rattle.std.proofs.lemmas.List.{get_or_default}
use Rattle.std.proofs.Math.ListN.{get_or-eq_default}
use Rattle.std.proofs.lemmas.Map.Steps.{length-le_from_distinct_below}
use Rattle.ready_work.specs.Rank.{Dependencies, after, Ranked, ranked, InRange, IsFirstCycle}
use Rattle.ready_work.specs.Numbering.{IsNumbering}

abbrev has : List ℕ → ℕ → Bool
has xs t = list_any (eqb t) xs

-- the last task stands first
abbrev IsOrder : Dependencies → List ℕ → Type 0
IsOrder d [] = ⊤
IsOrder d (x ∷ xs) = (x < length d) × (has xs x ≡ false) × ((u : ℕ) → Contains (after d x) u → has xs u ≡ true) × IsOrder d xs

abbrev number : List ℕ → ℕ → ℕ
number [] t = 0
number (x ∷ xs) t = cond (eqb t x) (length xs) (number xs t)

number_low : (xs : List ℕ) (t : ℕ) → has xs t ≡ true → number xs t < length xs
number_low [] t h = absurd (both_ways false refl h)
number_low (x ∷ xs) t h = elim (eqb_tells t x) [
  | inl same ↦ rw (same.0) (omega arith)
  | inr other ↦ rw (other.0) (let low : number xs t < length xs = number_low xs t (rw (other.0) at h) in omega (arith, low))
]

-- what stands behind x isn't x
not_first : (xs : List ℕ) (x u : ℕ) → has xs x ≡ false → has xs u ≡ true → eqb u x ≡ false
not_first xs x u lacks h = elim (eqb_tells u x) [
  | inl same ↦ absurd (both_ways (has xs x) lacks (rw (same.1) at h))
  | inr other ↦ other.0
]

later : (xs : List ℕ) (x u : ℕ) → has xs u ≡ true → has (x ∷ xs) u ≡ true
later xs x u h = elim (eqb_tells u x) [ inl same ↦ rw (same.0) refl | inr other ↦ rw (other.0) h ]

-- what a task of the order comes after stands in it too, with a smaller number
rises : (d : Dependencies) (xs : List ℕ) (t u : ℕ) → IsOrder d xs → has xs t ≡ true → Contains (after d t) u → (has xs u ≡ true) × (number xs u < number xs t)
rises d [] t u o h named = absurd (both_ways false refl h)
rises d (x ∷ xs) t u o h named = elim (eqb_tells t x) [
  | inl same ↦
      let found : has xs u ≡ true = o.2 u (rw (same.1) at named) in
      (later xs x u found, rw (same.0, not_first xs x u o.1 found) (number_low xs u found))
  | inr other ↦
      let below = rises d xs t u o.3 (rw (other.0) at h) named in
      (later xs x u below.0, rw (other.0, not_first xs x u o.1 below.0) below.1)
]

none_same : (xs : List ℕ) (x : ℕ) → has xs x ≡ false → AllByRecursion (λ y. eqb x y ≡ false) xs
none_same [] x lacks = tt
none_same (y ∷ ys) x lacks = elim (cases_Bool (eqb x y)) [
  | inl same ↦ absurd (both_ways true (rw same at lacks) refl)
  | inr other ↦ (other, none_same ys x (rw other at lacks))
]

distinct : (d : Dependencies) (xs : List ℕ) → IsOrder d xs → IsDistinct eqb xs
unfolding IsDistinct
distinct d [] o = tt
distinct d (x ∷ xs) o = (none_same xs x o.1, distinct d xs o.3)

in_range : (d : Dependencies) (xs : List ℕ) (t : ℕ) → IsOrder d xs → has xs t ≡ true → t < length d
in_range d [] t o h = absurd (both_ways false refl h)
in_range d (x ∷ xs) t o h = elim (eqb_tells t x) [
  | inl same ↦ rw (same.1) o.0
  | inr other ↦ in_range d xs t o.3 (rw (other.0) at h)
]

size : (d : Dependencies) (xs : List ℕ) → IsOrder d xs → length xs ≤ length d
size d xs o = length-le_from_distinct_below xs (length d) (distinct d xs o) (λ t h. in_range d xs t o h)

-- ---- an order that has a task, over one that may lack it

record Extends (d : Dependencies) (xs : List ℕ) (P : (ℕ → Bool) → Type 0) : Type 0 where
  order : List ℕ
  is_order : IsOrder d order
  keeps : (u : ℕ) → has xs u ≡ true → has order u ≡ true
  gains : P (has order)

abbrev HasFirst : List ℕ → ℕ → (ℕ → Bool) → Type 0
HasFirst names n found = (k : ℕ) → k < n → found (get_or names k 0) ≡ true

-- the first n names of a list, each of which can be had
with_names : (d : Dependencies) (names : List ℕ) (n : ℕ) → n ≤ length names
    → ((u : ℕ) → Contains names u → (xs : List ℕ) → IsOrder d xs → Extends d xs (λ found. found u ≡ true))
    → (xs : List ℕ) → IsOrder d xs → Extends d xs (HasFirst names n)
with_names d names zero low step xs o = record { order = xs; is_order = o; keeps = λ u h. h; gains = λ k lt. absurd (omega arith) }
with_names d names (suc n) low step xs o =
    let before = with_names d names n (omega arith) step xs o in
    let u : ℕ = get_or names n 0 in
    let named : Contains names u = (n, omega arith, get_or_default names n u 0 (omega arith)) in
    let more = step u named before.order before.is_order in
    record {
      order = more.order;
      is_order = more.is_order;
      keeps = λ v h. more.keeps v (before.keeps v h);
      gains = λ k lt. elim (cases_lt k n) [
        | inl below ↦ more.keeps _ (before.gains k below)
        | inr here ↦ let same : k ≡ n = omega arith in rw same more.gains
      ];
    }

with_task : (d : Dependencies) → InRange d → (t : ℕ) → Ranked d t → t < length d → (xs : List ℕ) → IsOrder d xs → Extends d xs (λ found. found t ≡ true)
with_task d range t (ranked _ below) low xs o =
    let names = after d t in
    let named_low : (u : ℕ) → Contains names u → u < length d = λ u named. subst (λ (v : ℕ). v < length d) (get_or_default names named.0 0 u named.1 ∙ named.2) (range t named.0 low named.1) in
    let all = with_names d names (length names) (omega arith) (λ u named ys p. with_task d range u (below u named) (named_low u named) ys p) xs o in
    elim (cases_Bool (has all.order t)) [
      | inl is ↦ record { order = all.order; is_order = all.is_order; keeps = all.keeps; gains = is }
      | inr lacks ↦ record {
        order = t ∷ all.order;
        is_order = (low, lacks, λ u named. subst (λ (v : ℕ). has all.order v ≡ true) (get_or_default names named.0 0 u named.1 ∙ named.2) (all.gains named.0 named.1), all.is_order);
        keeps = λ u h. later all.order t u (all.keeps u h);
        gains = elim (eqb_tells t t) [ inl same ↦ rw (same.0) refl | inr other ↦ absurd (other.1 refl) ];
      }
    ]

-- the tasks below n
with_tasks : (d : Dependencies) → InRange d → IsFirstCycle d None → (n : ℕ) → n ≤ length d → Extends d [] (λ found. (t : ℕ) → t < n → found t ≡ true)
with_tasks d range all zero low = record { order = []; is_order = tt; keeps = λ u h. h; gains = λ t lt. absurd (omega arith) }
with_tasks d range all (suc n) low =
    let before = with_tasks d range all n (omega arith) in
    let more = with_task d range n (all n (omega arith)) (omega arith) before.order before.is_order in
    record {
      order = more.order;
      is_order = more.is_order;
      keeps = λ v h. more.keeps v (before.keeps v h);
      gains = λ t lt. elim (cases_lt t n) [
        | inl below ↦ more.keeps t (before.gains t below)
        | inr here ↦ let same : t ≡ n = omega arith in rw same more.gains
      ];
    }

pub numbering : (d : Dependencies) → InRange d → IsFirstCycle d None → (n : ℕ → ℕ) × IsNumbering d n
numbering d range all =
    let whole = with_tasks d range all (length d) (omega arith) in (
      number whole.order,
      record {
        below = λ t low. let least = number_low whole.order t (whole.gains t low) in let most = size d whole.order whole.is_order in omega (arith, least, most);
        rises = λ t k x lt. elim (cases_lt t (length d)) [
          | inl low ↦ (rises d whole.order t (get_or (after d t) k x) whole.is_order (whole.gains t low) (k, lt, get_or_default (after d t) k (get_or (after d t) k x) x lt)).1
          | inr outside ↦ let none : after d t ≡ [] = get_or-eq_default d [] outside in absurd (omega (arith, rw none at lt))
        ];
      },
    )
