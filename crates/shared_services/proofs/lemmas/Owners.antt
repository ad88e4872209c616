-- The owners of a range of locks, from the last to the first.
use Rattle.std.proofs.Common.{◌≡◌, ℕ, zero, suc, ◌<◌, ◌≤◌, ◌+◌, ◌-◌, Bool, true, false, cond, ◌||◌, None, List, [], ◌∷◌, length, get_or, take, drop, Option, slice_range, refl, sym, ap, ◌∙◌, arith}
use Rattle.std.specs.List.{list_any}
use Rattle.std.proofs.lemmas.List.{length-take}
use Rattle.lock_journal.specs.Names.{is_owner, WorkerId}
use Rattle.shared_services.specs.Services.{is_last_of, users_in}

range_at : {X : Type 0} (xs : List X) (i n : ℕ) (d : X) → i < length xs → take (suc n) (drop i xs) ≡ get_or xs i d ∷ take n (drop (suc i) xs)
range_at [] i n d low = absurd (omega (arith, low))
range_at (x ∷ xs) zero n d low = refl
range_at (x ∷ xs) (suc i) n d low = range_at xs i n d (omega (arith, low))

-- a range begins with its first member
pub range_from : {X : Type 0} (xs : List X) (i end : ℕ) (d : X) → i < end → end ≤ length xs → slice_range xs i end ≡ get_or xs i d ∷ slice_range xs (i + 1) end
range_from xs i end d low high =
    let n : end - i ≡ suc (end - (i + 1)) = omega (arith, low) in
    let next : suc i ≡ i + 1 = omega arith in
    ap (λ (k : ℕ). take k (drop i xs)) n ∙ range_at xs i (end - (i + 1)) d (omega (arith, low, high)) ∙ ap (λ (k : ℕ). get_or xs i d ∷ take (end - (i + 1)) (drop k xs)) next

pub range_empty : {X : Type 0} (xs : List X) (i : ℕ) → slice_range xs i i ≡ []
range_empty xs i = ap (λ (k : ℕ). take k (drop i xs)) (let same : i - i ≡ 0 = omega arith in same)

-- no more workers than locks
pub few_users : (os : List (Option WorkerId)) → users_in os ≤ length os
few_users [] = omega arith
few_users (o ∷ os) = at (is_last_of o os) (few_users os)
  where
    at : (b : Bool) → users_in os ≤ length os → cond b (users_in os + 1) (users_in os) ≤ suc (length os)
    at true rest = omega (arith, rest)
    at false rest = omega (arith, rest)

-- the users of a range that begins one lower
pub users_from : (os : List (Option WorkerId)) (i next end count : ℕ) (b : Bool) → i + 1 ≡ next → i < end → end ≤ length os → count ≡ users_in (slice_range os next end)
    → b ≡ is_last_of (get_or os i None) (slice_range os (i + 1) end) → cond b (count + 1) count ≡ users_in (slice_range os i end)
users_from os i next end count b step low high was is =
    let before : count ≡ users_in (slice_range os (i + 1) end) = was ∙ ap (λ (n : ℕ). users_in (slice_range os n end)) (sym step) in
    (λ k. cond (is k) (before k + 1) (before k)) ∙ sym (ap users_in (range_from os i end None low high))

range_length : {X : Type 0} (xs : List X) (i end : ℕ) → i ≤ end → length (slice_range xs i end) ≤ end - i
range_length xs i end low = let e = length-take (end - i) (drop i xs) in omega (arith, e)

pub few_in_range : (os : List (Option WorkerId)) (i end count : ℕ) → i ≤ end → count ≡ users_in (slice_range os i end) → count + i ≤ end
few_in_range os i end count low is = let few = few_users (slice_range os i end) in let short = range_length os i end low in omega (arith, few, short, is, low)

either_way : (a b : Bool) → (a || b) ≡ (b || a)
either_way true true = refl
either_way true false = refl
either_way false true = refl
either_way false false = refl

-- whether a worker owns one of a range that begins one lower
pub any_from : (os : List (Option WorkerId)) (w : WorkerId) (i next end : ℕ) (found own : Bool) → i + 1 ≡ next → i < end → end ≤ length os
    → found ≡ list_any (λ o. is_owner o w) (slice_range os next end) → own ≡ is_owner (get_or os i None) w
    → (found || own) ≡ list_any (λ o. is_owner o w) (slice_range os i end)
any_from os w i next end found own step low high was is =
    either_way found own
    ∙ (λ k. is k || was k)
    ∙ ap (λ (n : ℕ). is_owner (get_or os i None) w || list_any (λ o. is_owner o w) (slice_range os n end)) (sym step)
    ∙ sym (ap (λ (l : List (Option WorkerId)). list_any (λ o. is_owner o w) l) (range_from os i end None low high))

-- where a loop down to the first has come to it
pub any_at_last : (os : List (Option WorkerId)) (w : WorkerId) (i first end : ℕ) (found : Bool) → i ≡ first
    → found ≡ list_any (λ o. is_owner o w) (slice_range os i end) → found ≡ list_any (λ o. is_owner o w) (slice_range os first end)
any_at_last os w i first end found same is = is ∙ ap (λ (n : ℕ). list_any (λ o. is_owner o w) (slice_range os n end)) same

-- of so many locks no more have users
pub few_of : (os : List (Option WorkerId)) (first count : ℕ) → users_in (slice_range os first (first + count)) ≤ count
few_of os first count =
    let few : users_in (slice_range os first (first + count)) + first ≤ first + count = few_in_range os first (first + count) (users_in (slice_range os first (first + count))) (omega arith) refl in
    omega (arith, few)
