-- Places, and how often each stands in lists.
use Rattle.std.proofs.Common.{◌≡◌, ◌≢◌, ◌<◌, ◌≤◌, ◌==◌, ℕ, zero, suc, ◌+◌, Bool, List, [], ◌∷◌, length, get_or}
use Rattle.std.proofs.Common.{eq-eqb, ne_eqb, refl, sym, ap, ◌∙◌, subst, arith, sum_by, count_by, cond}
use Rattle.std.specs.List.{All, Any}
use Rattle.std.proofs.lemmas.List.Sums.{sum_by-cons, sum_by_push}
use Rattle.std.proofs.lemmas.List.Elements.{All-head, All-tail}
use mathlib.Core.Logic.{dite}
use native.Mathlib.Decide.{ℕ_discrete}
use Rattle.work_tickets.specs.Rule.{places}
use Rattle.work_tickets.specs.Together.{EachOnce}
use Rattle.work_tickets.specs.declared.rule.Sight.{Sight}
use Rattle.work_tickets.proofs.Totals.{someone}

abbrev mark : (ℕ → Bool) → ℕ → ℕ
mark sort x = cond (sort x) 1 0

mark_yes : (k n : ℕ) → n ≡ k → ◌≡◌ {A = ℕ} (cond (n == k) 1 0) 1
mark_yes k n e = let marked : Bool → ℕ = λ b. cond b 1 0 in ap marked (eq-eqb n k e)

mark_no : (k n : ℕ) → n ≢ k → ◌≡◌ {A = ℕ} (cond (n == k) 1 0) 0
mark_no k n e = let marked : Bool → ℕ = λ b. cond b 1 0 in ap marked (ne_eqb n k e)

pub count_place_more : (sort : ℕ → Bool) (n : ℕ) → count_by sort (places (suc n)) ≡ count_by sort (places n) + cond (sort n) 1 0
count_place_more sort n = sum_by_push (mark sort) (places n) n

-- a place from n on stands in none of the places below n
count_above : (k n : ℕ) → n ≤ k → count_by (λ x. x == k) (places n) ≡ 0
count_above k zero le = refl
count_above k (suc n) le = omega (arith, count_place_more (λ x. x == k) n, count_above k n (omega arith), mark_no k n (λ e. omega arith))

-- each place below n stands in them once
count_below : (k n : ℕ) → k < n → count_by (λ x. x == k) (places n) ≡ 1
count_below k zero lt = absurd (omega arith)
count_below k (suc n) lt =
    let more = count_place_more (λ x. x == k) n in
    dite (ℕ_discrete n k) (λ e. omega (arith, more, mark_yes k n e, count_above k n (omega (arith, e))))
    (λ ne. omega (arith, more, mark_no k n ne, count_below k n (omega (arith, ne))))

-- where of every sort there are as many in the lists as places below n, each of these stands there once
pub each_once : (n : ℕ) (list_of : Sight → List ℕ) (seats : List Sight)
    → ((sort : ℕ → Bool) → sum_by (λ s. count_by sort (list_of s)) seats ≡ count_by sort (places n)) → EachOnce n list_of seats
each_once n list_of seats same = record {
  once = λ k lt. same (λ x. x == k) ∙ count_below k n lt;
  others = λ k le. same (λ x. x == k) ∙ count_above k n le;
}

-- a number that stands in a list is below what all in it are below
stands_below : (k bound : ℕ) (xs : List ℕ) → All (λ x. x < bound) xs → 0 < count_by (λ x. x == k) xs → k < bound
stands_below k bound [] all some_left = absurd (omega arith)
stands_below k bound (x ∷ xs) all some_left =
    let cons = sum_by-cons (mark (λ y. y == k)) x xs in
    dite (ℕ_discrete x k) (λ e. let here = All-head (λ y. y < bound) x xs all in omega (arith, e, here))
    (λ ne. stands_below k bound xs (All-tail (λ y. y < bound) x xs all) (omega (arith, cons, some_left, mark_no k x ne)))

-- Of seats that have all places below n, one knows n of them.
pub one_knows : (list_of : Sight → List ℕ) (known : Sight → ℕ) (n : ℕ) (seats : List Sight) → 0 < length seats
    → All (λ s. All (λ place. place < known s) (list_of s)) seats
    → ((sort : ℕ → Bool) → sum_by (λ s. count_by sort (list_of s)) seats ≡ count_by sort (places n))
    → Any (λ s. n ≤ known s) seats
one_knows list_of known zero [] some_seat all same = absurd (omega arith)
one_knows list_of known zero (s ∷ seats) some_seat all same = (0, s, omega arith, refl, omega arith)
one_knows list_of known (suc n) seats some_seat all same =
    let last = same (λ x. x == n) ∙ count_below n (suc n) (omega arith) in
    let who = someone (λ s. count_by (λ x. x == n) (list_of s)) seats (omega (arith, last)) in
    let its : All (λ place. place < known who.1) (list_of who.1) = subst (λ s. All (λ place. place < known s) (list_of s)) who.3 (all who.0 who.1 who.2) in
    let below = stands_below n (known who.1) (list_of who.1) its who.4 in
    (who.0, who.1, who.2, who.3, omega (arith, below))

-- of one seat
pub only : (P : Sight → Type 0) (s : Sight) → Any P (s ∷ []) → P s
only P s any = at any.0 any.2 any.3
  where
    at : (k : ℕ) → k < 1 → get_or (s ∷ []) k any.1 ≡ any.1 → P s
    at zero lt e = subst P (sym e) any.4
    at (suc k) lt e = absurd (omega arith)
