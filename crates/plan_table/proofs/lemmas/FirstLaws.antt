-- The refusal of a document's tables is the first that holds.
use Rattle.std.proofs.Common.{◌≡◌, ℕ, zero, suc, ◌+◌, ◌<◌, Option, Some, None, option_map, refl, ap, sym, subst, ◌∙◌, inl, inr, arith}
use Rattle.std.proofs.lemmas.Option.{none-some, same_Some}
use Rattle.std.specs.List.{slice_get}
use Rattle.toml.specs.Data.{Data}
use Rattle.plan_table.specs.declared.refusals.Place.{Place}
use Rattle.plan_table.specs.declared.refusals.PlanRefusal.{PlanRefusal}
use Rattle.plan_table.specs.declared.refusals.PlanRefusal.TheVariants as refusal
use Rattle.plan_table.specs.declared.tables.TableTest.{TableTest}
use Rattle.plan_table.specs.declared.tables.TableTest.TheVariants.{UnknownKey, WrongType, Missing, BadName}
use Rattle.plan_table.specs.Search.{holds_at, first_place, refusal_of, table_refusal}
use Rattle.plan_table.specs.Tables.{tests}
use Rattle.plan_table.specs.First.{cause_number, place_of, excess_number, IsEarlier, IsNearer, IsBefore, IsFirst, IsFirstOf, FirstAt, Passes, TableHolds}
use Rattle.plan_table.proofs.lemmas.FirstAnswers.{option_map_none, option_map_some, first_of_none, first_of_some}
use Rattle.plan_table.proofs.lemmas.FirstPlaces.{no_place, place_first}

-- ---- the tests in their order

test_number : TableTest → ℕ
test_number UnknownKey = 0
test_number WrongType = 1
test_number Missing = 2
test_number BadName = 3

test_at : (t : TableTest) → slice_get tests (test_number t) ≡ Some t
unfolding test_number
test_at UnknownKey = refl
test_at WrongType = refl
test_at Missing = refl
test_at BadName = refl

number_of_test : (k : ℕ) (t : TableTest) → slice_get tests k ≡ Some t → test_number t ≡ k
unfolding test_number
number_of_test zero t at = ap test_number (sym (same_Some UnknownKey t at))
number_of_test (suc zero) t at = ap test_number (sym (same_Some WrongType t at))
number_of_test (suc (suc zero)) t at = ap test_number (sym (same_Some Missing t at))
number_of_test (suc (suc (suc zero))) t at = ap test_number (sym (same_Some BadName t at))
number_of_test (suc (suc (suc (suc k)))) t at = absurd (none-some t at)

same_test : (t u : TableTest) → test_number t ≡ test_number u → t ≡ u
same_test t u same = same_Some t u (sym (test_at t) ∙ ap (slice_get tests) same ∙ test_at u)

-- ---- a refusal and its test

abbrev HoldsAt : Data → TableTest → Place → Type 0
HoldsAt d t p = Passes (holds_at t) d p

refused : (d : Data) (t : TableTest) (p : Place) → HoldsAt d t p → TableHolds d (refusal_of t p)
refused d UnknownKey p h = h
refused d WrongType p h = h
refused d Missing p h = h
refused d BadName p h = h

cause_of_test : (t : TableTest) (p : Place) → cause_number (refusal_of t p) ≡ test_number t + 2
unfolding test_number
cause_of_test UnknownKey p = refl
cause_of_test WrongType p = refl
cause_of_test Missing p = refl
cause_of_test BadName p = refl

place_of_test : (t : TableTest) (p : Place) → (place_of (refusal_of t p) ≡ p) × (excess_number (refusal_of t p) ≡ 0)
place_of_test UnknownKey p = (refl, refl)
place_of_test WrongType p = (refl, refl)
place_of_test Missing p = (refl, refl)
place_of_test BadName p = (refl, refl)

record ByTest (d : Data) (r : PlanRefusal) : Type 0 where
  test : TableTest
  cause : cause_number r ≡ test_number test + 2
  holds : HoldsAt d test (place_of r)

by_test : (d : Data) (r : PlanRefusal) → TableHolds d r → ByTest d r
by_test d refusal.TooLong h = absurd h
by_test d refusal.NotToml h = absurd h
by_test d (refusal.UnknownKey p) h = record { test = UnknownKey; cause = cause_of_test UnknownKey p; holds = h }
by_test d (refusal.WrongType p) h = record { test = WrongType; cause = cause_of_test WrongType p; holds = h }
by_test d (refusal.Missing p) h = record { test = Missing; cause = cause_of_test Missing p; holds = h }
by_test d (refusal.BadName p) h = record { test = BadName; cause = cause_of_test BadName p; holds = h }
by_test d (refusal.Twice p) h = absurd h
by_test d (refusal.NoSuchProject p) h = absurd h
by_test d (refusal.NoSuchTask p) h = absurd h
by_test d (refusal.Cycle p) h = absurd h
by_test d (refusal.ReleaseNotLast p) h = absurd h
by_test d (refusal.ClassLoader p) h = absurd h
by_test d (refusal.TooMany w p) h = absurd h
by_test d (refusal.BadRequirements p) h = absurd h

-- ---- none

test_nowhere : (d : Data) (t : TableTest) → option_map (refusal_of t) (first_place (holds_at t) d) ≡ None → (p : Place) → HoldsAt d t p → ⊥
test_nowhere d t none = no_place (holds_at t) d (option_map_none _ _ none)

pub no_test : (d : Data) → table_refusal d ≡ None → (t : TableTest) (p : Place) → HoldsAt d t p → ⊥
no_test d none t = test_nowhere d t (first_of_none (λ u. option_map (refusal_of u) (first_place (holds_at u) d)) tests none (test_number t) t (test_at t))

-- ---- the first

module _ (d : Data) (t : TableTest) (place : Place) (it : FirstAt (HoldsAt d t) place) where
  nearer : (r : PlanRefusal) → IsNearer r (refusal_of t place) → HoldsAt d t (place_of r) → ⊥
  nearer r (inl earlier) h = it.before (place_of r) (subst (IsEarlier (place_of r)) (place_of_test t place).0 earlier) h
  nearer r (inr (same, less)) h = absurd (omega (arith, less, (place_of_test t place).1))

  before_it : ((u : TableTest) → test_number u < test_number t → (p : Place) → HoldsAt d u p → ⊥) → (r : PlanRefusal) → ByTest d r → IsBefore r (refusal_of t place) → ⊥
  before_it lower r b (inl less) = lower b.test (omega (arith, less, b.cause, cause_of_test t place)) (place_of r) b.holds
  before_it lower r b (inr (same, near)) =
      let one : b.test ≡ t = same_test b.test t (omega (arith, same, b.cause, cause_of_test t place)) in
      nearer r near (subst (λ u. HoldsAt d u (place_of r)) one b.holds)

first_refusal : (d : Data) (r : PlanRefusal) → table_refusal d ≡ Some r → IsFirst (TableHolds d) r
first_refusal d r e =
    let (k, t, first) = first_of_some (λ u. option_map (refusal_of u) (first_place (holds_at u) d)) tests r e in
    let (place, found, made) = option_map_some (refusal_of t) (first_place (holds_at t) d) r first.found in
    let it : FirstAt (HoldsAt d t) place = place_first (holds_at t) d place found in
    let lower : (u : TableTest) → test_number u < test_number t → (p : Place) → HoldsAt d u p → ⊥ =
    λ u lt. test_nowhere d u (first.before (test_number u) u (subst (λ n. test_number u < n) (number_of_test k t first.at) lt) (test_at u)) in
    subst (IsFirst (TableHolds d)) made (record {
      here = refused d t place it.here;
      before = λ s b h. before_it d t place it lower s (by_test d s h) b;
    })

pub is_first_refusal : (d : Data) → IsFirstOf (TableHolds d) (table_refusal d)
is_first_refusal d = by (table_refusal d) refl
  where
    by : (o : Option PlanRefusal) → table_refusal d ≡ o → IsFirstOf (TableHolds d) o
    by None e = λ r h. let b = by_test d r h in no_test d e b.test (place_of r) b.holds
    by (Some r) e = first_refusal d r e
