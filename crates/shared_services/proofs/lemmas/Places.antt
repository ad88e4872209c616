-- Where the locks of services lie.
use Rattle.std.proofs.Common.{◌≡◌, ℕ, zero, suc, ◌<◌, ◌≤◌, ◌+◌, ◌*◌, ◌-◌, ◌⊎◌, inl, inr, ap, List, [], ◌∷◌, length, get_or, take, sum, arith}
use Rattle.std.specs.List.{All}
use Rattle.std.proofs.lemmas.Bool.{cases_lt}
use Rattle.std.proofs.lemmas.List.Elements.{All-head, All-tail}
use Rattle.std.proofs.lemmas.List.Sums.{sum_by-cons}
use Rattle.shared_services.specs.Services.{FitMaxima, lock_count}
use Rattle.shared_services.specs.declared.services.TheConstants.{MAX_SERVICES, MAX_USES}

sum_from : (x : ℕ) (xs : List ℕ) → sum (x ∷ xs) ≡ x + sum xs
sum_from x xs = sum_by-cons (λ (n : ℕ). n) x xs

-- maxima of 32 at most
few_each : (xs : List ℕ) → All (λ m. (1 ≤ m) × (m ≤ 32)) xs → sum xs ≤ length xs * 32
few_each [] all = omega arith
few_each (x ∷ xs) all =
    let head = All-head (λ m. (1 ≤ m) × (m ≤ 32)) x xs all in
    let rest = few_each xs (All-tail (λ m. (1 ≤ m) × (m ≤ 32)) x xs all) in
    omega (arith, head.1, rest, sum_from x xs)

pub few_locks : (maxima : List ℕ) → FitMaxima maxima → lock_count maxima ≤ MAX_SERVICES * MAX_USES
few_locks maxima fit = let total = few_each maxima fit.used in omega (arith, total, fit.few)

-- the locks of a service come before those of later ones, and within all
pub ends_before : (xs : List ℕ) (i j : ℕ) → i < j → j ≤ length xs → sum (take i xs) + get_or xs i 0 ≤ sum (take j xs)
ends_before [] i j low high = absurd (omega (arith, low, high))
ends_before (x ∷ xs) i zero low high = absurd (omega (arith, low))
ends_before (x ∷ xs) zero (suc j) low high = let e : sum (take (suc j) (x ∷ xs)) ≡ x + sum (take j xs) = sum_from x (take j xs) in omega (arith, e)
ends_before (x ∷ xs) (suc i) (suc j) low high =
    let rest : sum (take i xs) + get_or xs i 0 ≤ sum (take j xs) = ends_before xs i j (omega (arith, low)) (omega (arith, high)) in
    let e : sum (take (suc j) (x ∷ xs)) ≡ x + sum (take j xs) = sum_from x (take j xs) in
    let f : sum (take (suc i) (x ∷ xs)) ≡ x + sum (take i xs) = sum_from x (take i xs) in
    omega (arith, rest, e, f)

pub ends_within : (xs : List ℕ) (i : ℕ) → i < length xs → sum (take i xs) + get_or xs i 0 ≤ sum xs
ends_within [] i low = absurd (omega (arith, low))
ends_within (x ∷ xs) zero low = omega (arith, sum_from x xs)
ends_within (x ∷ xs) (suc i) low =
    let rest : sum (take i xs) + get_or xs i 0 ≤ sum xs = ends_within xs i (omega (arith, low)) in
    let f : sum (take (suc i) (x ∷ xs)) ≡ x + sum (take i xs) = sum_from x (take i xs) in
    omega (arith, rest, f, sum_from x xs)

pub one_more : (xs : List ℕ) (i : ℕ) → i < length xs → sum (take (suc i) xs) ≡ sum (take i xs) + get_or xs i 0
one_more [] i low = absurd (omega (arith, low))
one_more (x ∷ xs) zero low = let e : sum (take 1 (x ∷ xs)) ≡ x + sum [] = sum_from x [] in omega (arith, e)
one_more (x ∷ xs) (suc i) low =
    let rest : sum (take (suc i) xs) ≡ sum (take i xs) + get_or xs i 0 = one_more xs i (omega (arith, low)) in
    let e : sum (take (suc (suc i)) (x ∷ xs)) ≡ x + sum (take (suc i) xs) = sum_from x (take (suc i) xs) in
    let f : sum (take (suc i) (x ∷ xs)) ≡ x + sum (take i xs) = sum_from x (take i xs) in
    omega (arith, rest, e, f)

pub part_within : (xs : List ℕ) (i : ℕ) → sum (take i xs) ≤ sum xs
part_within xs zero = omega arith
part_within [] (suc i) = omega arith
part_within (x ∷ xs) (suc i) =
    let rest : sum (take i xs) ≤ sum xs = part_within xs i in
    let f : sum (take (suc i) (x ∷ xs)) ≡ x + sum (take i xs) = sum_from x (take i xs) in
    omega (arith, rest, f, sum_from x xs)

-- where numbers rise up to a place, and its number is greater than the one before it, it is greater than all before it
pub rising_to : (asked : List ℕ) (place i : ℕ) → ((a b : ℕ) → a < b → b < place → get_or asked a 0 < get_or asked b 0) → (0 < place → get_or asked (place - 1) 0 < get_or asked place 0) → i < place
    → get_or asked i 0 < get_or asked place 0
rising_to asked zero i rising last low = absurd (omega (arith, low))
rising_to asked (suc p) i rising last low = at (cases_lt i p)
  where
    before : suc p - 1 ≡ p
    before = omega arith

    at : (i < p) ⊎ (p ≤ i) → get_or asked i 0 < get_or asked (suc p) 0
    at (inl less) = let a : get_or asked i 0 < get_or asked p 0 = rising i p less (omega arith) in let b : get_or asked (suc p - 1) 0 < get_or asked (suc p) 0 = last (omega arith) in omega (arith, a, b, ap (λ (k : ℕ). get_or asked k 0) before)
    at (inr more) = let same : i ≡ p = omega (arith, low, more) in let b : get_or asked (suc p - 1) 0 < get_or asked (suc p) 0 = last (omega arith) in omega (arith, b, ap (λ (k : ℕ). get_or asked k 0) before, ap (λ (k : ℕ). get_or asked k 0) same)
