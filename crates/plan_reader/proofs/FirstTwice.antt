-- The first name that stood before.
use Rattle.std.proofs.Common.{◌≡◌, ℕ, ◌<◌, true, List, [], map, take, length, get_or, Some, None, sym, subst, ◌∙◌, arith}
use Rattle.std.specs.Str.{bytes_eq}
use Rattle.std.proofs.lemmas.Bool.{true≢false}
use Rattle.std.proofs.lemmas.List.{get_or-take, get_or_default, length-take-le}
use Rattle.std.proofs.lemmas.List.Folds.{list_any_at, Any-from_list_any}
use Rattle.std.proofs.lemmas.Slice.Eq.{bytes_eq-Decides}
use Rattle.toml.specs.Data.{Data}
use Rattle.plan_table.specs.declared.refusals.Part.{Part}
use Rattle.plan_table.specs.declared.refusals.Place.{Place}
use Rattle.plan_table.specs.declared.refusals.PlanRefusal.{PlanRefusal}
use Rattle.plan_table.specs.declared.refusals.PlanRefusal.TheVariants as refusal
use Rattle.plan_table.specs.First.{FirstAt}
use Rattle.plan_table.specs.Forms.{Text}
use Rattle.plan_table.specs.Keys.{name_of}
use Rattle.plan_table.specs.Search.{places, parts, place_at}
use Rattle.plan_table.proofs.lemmas.FirstAnswers.{option_map_none, option_map_some, first_of_some}
use Rattle.plan_table.proofs.lemmas.FirstPlaces.{Finds, found_nowhere, found_first}
use Rattle.plan_reader.specs.First.{IsTwice, HasTwice}
use Rattle.plan_reader.specs.NameNumbers.{is_repeat, first_repeat}
use Rattle.plan_reader.specs.Search.{first_twice, twice_in, twice_refusal}
use Rattle.plan_reader.proofs.Least.{least_within, least_fails, least_first}

-- ---- a list of names

module _ (names : List Text) where
  is_twice : (n : ℕ) → n < length names → is_repeat names n ≡ true → IsTwice names n
  is_twice n within old =
      let (k, x, short, there, same) = Any-from_list_any (bytes_eq (get_or names n [])) (take n names) old in
      let long : length (take n names) ≡ n = length-take-le n names (omega (arith, within)) in
      let before : k < n = omega (arith, short, long) in
      let one : get_or names k [] ≡ x = get_or_default names k [] x (omega (arith, before, within)) ∙ sym (get_or-take n names k x before) ∙ there in
      (k, before, within, one ∙ sym ((bytes_eq-Decides (get_or names n []) x).0 same))

  is_old : (n : ℕ) → IsTwice names n → is_repeat names n ≡ true
  is_old n (k, before, within, same) =
      let long : length (take n names) ≡ n = length-take-le n names (omega (arith, within)) in
      let there : get_or (take n names) k [] ≡ get_or names k [] = get_or-take n names k [] before in
      list_any_at (bytes_eq (get_or names n [])) (take n names) k [] (omega (arith, before, long)) ((bytes_eq-Decides _ _).1 (sym same ∙ sym there))

  never : first_repeat names ≡ None → (n : ℕ) → IsTwice names n → ⊥
  never none n h = true≢false (sym (is_old n h) ∙ least_fails (is_repeat names) 0 (length names) none n (omega arith) (omega (arith, h.2)))

  repeated : (n : ℕ) → first_repeat names ≡ Some n → IsTwice names n
  repeated n found = is_twice n (omega (arith, (least_within (is_repeat names) 0 (length names) n found).1)) (least_first (is_repeat names) 0 (length names) n found).0

  not_before : (n : ℕ) → first_repeat names ≡ Some n → (k : ℕ) → k < n → IsTwice names k → ⊥
  not_before n found k lt h = true≢false (sym (is_old k h) ∙ (least_first (is_repeat names) 0 (length names) n found).1 k (omega arith) lt)

-- ---- the parts

abbrev names_at : Data → Part → List Text
names_at d p = map name_of (places d p)

finds : (d : Data) → Finds (HasTwice d) (λ p. first_repeat (names_at d p))
finds d = record {
  none = λ p. never (names_at d p);
  here = λ p. repeated (names_at d p);
  before = λ p. not_before (names_at d p);
}

silent : (d : Data) (p : Part) → twice_in d p ≡ None → first_repeat (names_at d p) ≡ None
silent d p none = option_map_none (place_at p) _ (option_map_none _ (first_twice p (places d p)) none)

pub twice_nowhere : (d : Data) → twice_refusal d ≡ None → (p : Place) → HasTwice d p → ⊥
twice_nowhere d = found_nowhere (HasTwice d) (λ p. first_repeat (names_at d p)) (twice_in d) (finds d) (silent d)

pub twice_first : (d : Data) (r : PlanRefusal) → twice_refusal d ≡ Some r → (p : Place) × (refusal.Twice p ≡ r) × FirstAt (HasTwice d) p
twice_first d r e =
    let (k, p, first) = first_of_some (twice_in d) parts r e in
    let (place, found, made) = option_map_some (λ q. refusal.Twice q) (first_twice p (places d p)) r first.found in
    let (i, at, is) = option_map_some (place_at p) (first_repeat (names_at d p)) place found in
    (place, made, subst (FirstAt (HasTwice d)) is (found_first (HasTwice d) (λ q. first_repeat (names_at d q)) (twice_in d) r k p i (finds d) (silent d) first at))
