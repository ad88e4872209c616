-- The first item of an action that hasn't ended, from the lowest unit that hasn't.
use Rattle.std.proofs.Common.{◌≡◌, ℕ, zero, suc, ◌+◌, ◌<◌, ◌≤◌, Bool, true, false, not, nat_lt, None, Some, cond, refl, ap, subst, arith, ◌⊎◌, inl, inr}
use Rattle.std.specs.Prelude.{find}
use Rattle.std.specs.Bool.{then_some}
use Rattle.std.specs.List.{range_with_len}
use Rattle.std.proofs.lemmas.Bool.{cases_eq, cases_lt, lt-ltb, le-ltb}
use Rattle.lock_journal.specs.Names.{GraphView, StateView, mark_of, UnitOf}
use Rattle.resource_lock.specs.Marks.{has_ended}
use Rattle.ready_work.specs.Choices.{IsOpenUnit}
use Rattle.ready_work.specs.Lowest.{IsFrom, IsLowest, IsNone}

-- the number is the first of a range of which a test holds
pub record IsFirst (p : ℕ → Bool) (first u : ℕ) : Type 0 where
  pub from : first ≤ u
  pub holds : p u ≡ true
  pub before : (k : ℕ) → first ≤ k → k < u → p k ≡ false

pub found_in : (p : ℕ → Bool) (first n u : ℕ) → IsFirst p first u → u < first + n → Some u ≡ find p (range_with_len first n)
found_in p first zero u is below = let from = is.from in absurd (omega arith)
found_in p first (suc n) u is below = at (cases_eq u first) (λ past. found_in p (first + 1) n u (record { from = past; holds = is.holds; before = λ k le lt. is.before k (omega arith) lt }) (omega arith))
  where
    at : (u ≡ first) ⊎ (u ≡ first → ⊥) → (first + 1 ≤ u → Some u ≡ find p (range_with_len (first + 1) n)) → Some u ≡ cond (p first) (Some first) (find p (range_with_len (first + 1) n))
    at (inl e) later = subst (λ v. Some u ≡ cond (p v) (Some v) (find p (range_with_len (first + 1) n))) e (rw is.holds refl)
    at (inr ne) later =
        let from = is.from in
        rw (is.before first (omega arith) (omega arith)) (later (omega arith))

pub none_in : (p : ℕ → Bool) (first n : ℕ) → ((k : ℕ) → first ≤ k → k < first + n → p k ≡ false) → None ≡ find p (range_with_len first n)
none_in p first zero none = refl
none_in p first (suc n) none = rw (none first (omega arith) (omega arith)) (none_in p (first + 1) n (λ k le lt. none k (omega arith) (omega arith)))

-- the first of a range, or none
first_in : (p : ℕ → Bool) (first n u : ℕ) → IsFirst p first u → then_some (nat_lt u (first + n)) u ≡ find p (range_with_len first n)
first_in p first n u is = at (cases_lt u (first + n))
  where
    at : (u < first + n) ⊎ (first + n ≤ u) → then_some (nat_lt u (first + n)) u ≡ find p (range_with_len first n)
    at (inl lt) = rw (lt-ltb u (first + n) lt) (found_in p first n u is lt)
    at (inr past) = rw (le-ltb u (first + n) past) (none_in p first n (λ k le lt. is.before k le (omega arith)))

ended_unless : (b : Bool) → (b ≡ false → ⊥) → not b ≡ false
ended_unless true is = refl
ended_unless false is = absurd (is refl)

-- the lowest unit that hasn't ended is the first of a range of units, if it is one of them
pub open_in_range : (g : GraphView) (s : StateView) (first n open' : ℕ) → first + n ≤ g.units → IsLowest (IsFrom first (IsOpenUnit g s)) open' → then_some (nat_lt open' (first + n)) open' ≡ find (λ u. not (has_ended (mark_of s (UnitOf u)))) (range_with_len first n)
open_in_range g s first n open' within low = first_in (λ u. not (has_ended (mark_of s (UnitOf u)))) first n open' (record {
  from = low.is.past;
  holds = ap not low.is.such.unended;
  before = λ k le lt. let inside = low.is.such.within in ended_unless (has_ended (mark_of s (UnitOf k))) (λ e. low.least k lt (record { past = le; such = record { within = omega arith; unended = e } }));
})

pub none_open_in_range : (g : GraphView) (s : StateView) (first n : ℕ) → first + n ≤ g.units → IsNone (IsFrom first (IsOpenUnit g s)) → None ≡ find (λ u. not (has_ended (mark_of s (UnitOf u)))) (range_with_len first n)
none_open_in_range g s first n within none = none_in (λ u. not (has_ended (mark_of s (UnitOf u)))) first n (λ k le lt.
    ended_unless (has_ended (mark_of s (UnitOf k))) (λ e. none.none k (record { past = le; such = record { within = omega arith; unended = e } })))
