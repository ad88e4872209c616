-- What follows where no test holds.
use Rattle.std.proofs.Common.{◌≡◌, ◌≢◌, cond, nat_lt, Bool, true, false, List, map, [], take, length, get_or, Option, Some, None, option_map, refl, sym, ◌∙◌, arith, inl, inr}
use Rattle.std.specs.List.{All, AllPairs, list_any, position, position_or_len}
use Rattle.std.specs.Option.{option_or}
use Rattle.std.specs.Str.{bytes_eq}
use Rattle.std.proofs.lemmas.Bool.{true≢false, cases_Bool, ltb-false}
use Rattle.std.proofs.lemmas.List.Sums.{fails_before_first}
use Rattle.std.proofs.lemmas.List.{get_or-take, get_or_default, length-take-le}
use Rattle.std.proofs.lemmas.List.Folds.{list_any_at}
use Rattle.std.proofs.lemmas.Option.{none-some}
use Rattle.std.proofs.lemmas.Slice.Eq.{bytes_eq-Decides}
use Rattle.toml.specs.Data.{Data}
use Rattle.plan_table.specs.declared.refusals.Part.{Part}
use Rattle.plan_table.specs.First.{part_number}
use Rattle.plan_table.specs.Forms.{Text}
use Rattle.plan_table.specs.Keys.{name_of}
use Rattle.plan_table.specs.Search.{places, parts, first_in, first_place}
use Rattle.plan_table.proofs.lemmas.FirstAnswers.{first_of_none}
use Rattle.plan_table.proofs.lemmas.FirstPlaces.{part_at}
use Rattle.plan_reader.specs.declared.rows.Row.{Row}
use Rattle.plan_reader.specs.NameNumbers.{is_repeat, first_repeat}
use Rattle.plan_reader.specs.Names.{names_in}
use Rattle.plan_reader.specs.Rows.{holds}
use Rattle.plan_reader.specs.Search.{first_twice, twice_in, twice_refusal, row_refusal}
use Rattle.plan_reader.proofs.Least.{least_fails}

pub neither : {X : Type 0} (a b : Option X) → option_or a b ≡ None → (a ≡ None) × (b ≡ None)
neither None b e = (refl, e)
neither (Some x) b e = absurd (none-some x (sym e))

pub unmapped : {X Y : Type 0} (f : X → Y) (o : Option X) → option_map f o ≡ None → o ≡ None
unmapped f None e = refl
unmapped f (Some x) e = absurd (none-some (f x) (sym e))

-- ---- the rows

nowhere_passes : {X : Type 0} (p : X → Bool) (xs : List X) → position p xs ≡ None → All (λ x. p x ≡ false) xs
nowhere_passes p xs none k d within = by (nat_lt (position_or_len p xs) (length xs)) refl none
  where
    by : (b : Bool) → nat_lt (position_or_len p xs) (length xs) ≡ b → cond b (Some (position_or_len p xs)) None ≡ None → p (get_or xs k d) ≡ false
    by true e n = absurd (none-some (position_or_len p xs) (sym n))
    by false e n = fails_before_first p xs k d (omega (arith, within, ltb-false _ _ e))

pub row_quiet : (d : Data) (r : Row) → row_refusal d r ≡ None → (p : Part) → All (λ x. holds (names_in d) r p x ≡ false) (places d p)
row_quiet d r none p =
    let nowhere : first_place (holds (names_in d) r) d ≡ None = unmapped _ (first_place (holds (names_in d) r) d) none in
    let here : first_in (holds (names_in d) r) d p ≡ None = first_of_none (first_in (holds (names_in d) r) d) parts nowhere (part_number p) p (part_at p) in
    nowhere_passes (holds (names_in d) r p) (places d p) (unmapped _ (position (holds (names_in d) r p) (places d p)) here)

-- ---- names

-- names of which none stood before
pub distinct : (names : List Text) → first_repeat names ≡ None → AllPairs (λ m n. m ≢ n) names
distinct names none i j d lt within same =
    let fresh : is_repeat names j ≡ false = least_fails (is_repeat names) 0 (length names) none j (omega arith) (omega (arith, within)) in
    let long : length (take j names) ≡ j = length-take-le j names (omega (arith, within)) in
    let there : get_or (take j names) i d ≡ get_or names i d = get_or-take j names i d lt in
    let other : get_or names j [] ≡ get_or names j d = get_or_default names j [] d within in
    let old = list_any_at (bytes_eq (get_or names j [])) (take j names) i d (omega (arith, lt, long)) ((bytes_eq-Decides _ _).1 (other ∙ sym same ∙ sym there)) in
    true≢false (sym old ∙ fresh)

pub unrepeated : (d : Data) → twice_refusal d ≡ None → (p : Part) → first_repeat (map name_of (places d p)) ≡ None
unrepeated d none p =
    let here : twice_in d p ≡ None = first_of_none (twice_in d) parts none (part_number p) p (part_at p) in
    unmapped _ (first_repeat (map name_of (places d p))) (unmapped _ (first_twice p (places d p)) here)

pub once_named : (d : Data) → twice_refusal d ≡ None → (p : Part) → AllPairs (λ m n. m ≢ n) (map name_of (places d p))
once_named d none p = distinct (map name_of (places d p)) (unrepeated d none p)

-- ---- tests of lists

-- of each element the test fails
pub none_passes : {X : Type 0} (test : X → Bool) (xs : List X) → list_any test xs ≡ false → All (λ x. test x ≡ false) xs
none_passes test xs none k d within =
    elim (cases_Bool (test (get_or xs k d))) [
      | inl passes ↦ absurd (true≢false (sym (list_any_at test xs k d within passes) ∙ none))
      | inr fails ↦ fails
    ]
