-- The first place at which a test holds, over the parts in their order.
use Rattle.std.proofs.Common.{◌≡◌, ℕ, zero, suc, ◌<◌, Bool, Option, Some, None, refl, ap, sym, subst, ◌∙◌, inl, inr}
use Rattle.std.proofs.lemmas.Bool.{true≢false}
use Rattle.std.proofs.lemmas.Option.{none-some, same_Some}
use Rattle.std.specs.List.{position, slice_get}
use Rattle.toml.specs.Data.{Data}
use Rattle.plan_table.specs.declared.refusals.Part.{Part}
use Rattle.plan_table.specs.declared.refusals.Part.TheVariants.{Plan, Project, Task, Requirements}
use Rattle.plan_table.specs.declared.refusals.Place.{Place}
use Rattle.plan_table.specs.Search.{first_of, places, parts, place_at, first_in, first_place}
use Rattle.plan_table.specs.First.{part_number, IsEarlier, FirstAt, Passes, IsFirstPlace}
use Rattle.plan_table.proofs.lemmas.FirstAnswers.{passes_nowhere, passes_first, option_map_none, option_map_some, first_of_none, FirstOf, first_of_some}

pub part_at : (p : Part) → slice_get parts (part_number p) ≡ Some p
part_at Plan = refl
part_at Project = refl
part_at Task = refl
part_at Requirements = refl

number_of_part : (k : ℕ) (p : Part) → slice_get parts k ≡ Some p → part_number p ≡ k
number_of_part zero p at = ap part_number (sym (same_Some Plan p at))
number_of_part (suc zero) p at = ap part_number (sym (same_Some Project p at))
number_of_part (suc (suc zero)) p at = ap part_number (sym (same_Some Task p at))
number_of_part (suc (suc (suc zero))) p at = ap part_number (sym (same_Some Requirements p at))
number_of_part (suc (suc (suc (suc k)))) p at = absurd (none-some p at)

-- what is found in each part is the least number at which the test holds
pub record Finds (Holds : Place → Type 0) (find : Part → Option ℕ) : Type 0 where
  pub none : (p : Part) → find p ≡ None → (i : ℕ) → Holds (place_at p i) → ⊥
  pub here : (p : Part) (i : ℕ) → find p ≡ Some i → Holds (place_at p i)
  pub before : (p : Part) (i : ℕ) → find p ≡ Some i → (j : ℕ) → j < i → Holds (place_at p j) → ⊥

pub found_nowhere : {Y : Type 0} (Holds : Place → Type 0) (find : Part → Option ℕ) (answer : Part → Option Y) → Finds Holds find → ((p : Part) → answer p ≡ None → find p ≡ None)
    → first_of answer parts ≡ None → (q : Place) → Holds q → ⊥
found_nowhere Holds find answer f silent none q = f.none q.part (silent q.part (first_of_none answer parts none (part_number q.part) q.part (part_at q.part))) q.number

pub found_first : {Y : Type 0} (Holds : Place → Type 0) (find : Part → Option ℕ) (answer : Part → Option Y) (y : Y) (k : ℕ) (p : Part) (i : ℕ) → Finds Holds find
    → ((q : Part) → answer q ≡ None → find q ≡ None) → FirstOf answer parts y k p → find p ≡ Some i → FirstAt Holds (place_at p i)
found_first Holds find answer y k p i f silent first found = record { here = f.here p i found; before = earlier }
  where
    earlier : (q : Place) → IsEarlier q (place_at p i) → Holds q → ⊥
    earlier q (inl lt) h = f.none q.part (silent q.part (first.before (part_number q.part) q.part (subst (λ n. part_number q.part < n) (number_of_part k p first.at) lt) (part_at q.part))) q.number h
    earlier q (inr (same, lt)) h = f.before p i found q.number lt (subst (λ x. Holds (place_at x q.number)) same h)

-- ---- a test of the tables

-- the first positions of what stands in the parts
position_finds : (test : Part → Data → Bool) (d : Data) → Finds (Passes test d) (λ p. position (test p) (places d p))
position_finds test d = record {
  none = λ p none i h. true≢false (sym h ∙ passes_nowhere (test p) (places d p) none i);
  here = λ p i found. (passes_first (test p) (places d p) i found).0;
  before = λ p i found j lt h. true≢false (sym h ∙ (passes_first (test p) (places d p) i found).1 j lt);
}

silent : (test : Part → Data → Bool) (d : Data) (p : Part) → first_in test d p ≡ None → position (test p) (places d p) ≡ None
silent test d p = option_map_none (place_at p) (position (test p) (places d p))

pub no_place : (test : Part → Data → Bool) (d : Data) → first_place test d ≡ None → (q : Place) → Passes test d q → ⊥
no_place test d = found_nowhere (Passes test d) (λ p. position (test p) (places d p)) (first_in test d) (position_finds test d) (silent test d)

pub place_first : (test : Part → Data → Bool) (d : Data) (place : Place) → first_place test d ≡ Some place → FirstAt (Passes test d) place
place_first test d place e =
    let (k, p, first) = first_of_some (first_in test d) parts place e in
    let (i, found, made) = option_map_some (place_at p) (position (test p) (places d p)) place first.found in
    subst (FirstAt (Passes test d)) made (found_first (Passes test d) (λ q. position (test q) (places d q)) (first_in test d) place k p i (position_finds test d) (silent test d) first found)

pub is_first_place : (test : Part → Data → Bool) (d : Data) → IsFirstPlace test d (first_place test d)
is_first_place test d = by (first_place test d) refl
  where
    by : (o : Option Place) → first_place test d ≡ o → IsFirstPlace test d o
    by None e = no_place test d e
    by (Some place) e = place_first test d place e
