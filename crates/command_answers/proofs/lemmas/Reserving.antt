-- The requests that the desks of a run sent, beside the reservations of its events.
use Rattle.std.proofs.Common.{◌≡◌, ℕ, zero, suc, ◌+◌, ◌≤◌, List, length, get_or, drop, refl, ap, arith}
use Rattle.std.specs.Prelude.{sum_by}
use Rattle.std.specs.List.{range_with_len}
use Rattle.std.proofs.lemmas.List.Sums.{sum_by-cons, sum_by-drop_more}
use Rattle.item_work.specs.Requests.{SentView}
use Rattle.build_workers.specs.RunDesks.{desks_view}
use Rattle.build_workers.specs.Desks.{DeskView}
use Rattle.command_answers.specs.Answered.{sent_by_first}

-- what n places of a list have, and what all behind them have
by_place : {D : Type 0} (f : D → ℕ) (xs : List D) (d : D) (first n end : ℕ) → first + n ≡ end → end ≤ length xs
    → sum_by (λ i. f (get_or xs i d)) (range_with_len first n) + sum_by f (drop end xs) ≡ sum_by f (drop first xs)
by_place f xs d first zero end at fits =
    let is : end ≡ first = omega (arith, at) in
    let rest : sum_by f (drop end xs) ≡ sum_by f (drop first xs) = ap (λ (k : ℕ). sum_by f (drop k xs)) is in
    omega (arith, rest)
by_place f xs d first (suc n) end at fits =
    let rest = by_place f xs d (first + 1) n end (omega (arith, at)) fits in
    let here = sum_by-drop_more f xs first d (omega (arith, at, fits)) in
    omega (arith, rest, here, sum_by-cons (λ i. f (get_or xs i d)) first (range_with_len (first + 1) n))

same_by_place : (f g : ℕ → ℕ) (first n : ℕ) → ((i : ℕ) → f i ≡ g i) → sum_by f (range_with_len first n) ≡ sum_by g (range_with_len first n)
same_by_place f g first zero same = refl
same_by_place f g first (suc n) same =
    let rest = same_by_place f g (first + 1) n same in
    omega (arith, same first, rest, sum_by-cons f first (range_with_len (first + 1) n), sum_by-cons g first (range_with_len (first + 1) n))

-- where all desks sent at most so many requests, and those behind the first n none, the first n did
pub first_sent : {D : Type 0} (view : D → DeskView) (old begun new : List D) (d : D) (n count : ℕ) → n ≤ length begun → n ≤ length new → drop n new ≡ drop n begun
    → ((i : ℕ) → (view (get_or begun i d)).sent ≡ (view (get_or old i d)).sent)
    → sum_by (λ x. (view x).sent.count) new ≤ sum_by (λ x. (view x).sent.count) begun + count
    → sent_by_first n (desks_view view new d) ≤ sent_by_first n (desks_view view old d) + count
first_sent {D} view old begun new d n count few few' rest same most =
    let f : D → ℕ = λ x. (view x).sent.count in
    let after = by_place f new d 0 n n (omega arith) few' in
    let before = by_place f begun d 0 n n (omega arith) few in
    let first = same_by_place (λ i. f (get_or begun i d)) (λ i. f (get_or old i d)) 0 n (λ i. ap (λ (s : SentView). s.count) (same i)) in
    omega (arith, after, before, ap (sum_by f) rest, first, most)
