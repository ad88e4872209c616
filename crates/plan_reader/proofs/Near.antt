-- A name that stands at a place, and names that are all there.
use Rattle.std.proofs.Common.{◌≡◌, ℕ, ◌+◌, ◌<◌, Bool, true, false, not, cond, is_some, unwrap_or, List, [], ◌∷◌, map, take, length, get_or, Bor, IsTrue, Option, Some, None, option_map, suc, refl, ap, sym, ◌∙◌, arith, inl, inr, position, bytes_eq}
use Rattle.std.specs.List.{All, list_any}
use Rattle.std.proofs.lemmas.Bool.{true≢false, false≢true, cases_eq, cases_lt, or_from}
use Rattle.std.proofs.lemmas.List.{length-map, get_or-map}
use Rattle.std.proofs.lemmas.List.Folds.{list_any_at, list_any_more}
use Rattle.std.proofs.lemmas.List.Quantifiers.{position-Some}
use Rattle.std.proofs.lemmas.Option.{none-some, same_Some}
use Rattle.std.proofs.lemmas.Slice.Eq.{bytes_eq-Decides}
use Rattle.toml.specs.Data.{Data}
use Rattle.plan_table.specs.declared.refusals.Part.TheVariants as part
use Rattle.plan_table.specs.Forms.{Text}
use Rattle.plan_table.specs.Keys.{projects_of, tasks_of, requirements_of, after_of}
use Rattle.plan_table.proofs.lemmas.Lists.{any_of_map, map_of_map}
use Rattle.plan_table.proofs.lemmas.LookLaws.{never, no_first_place}
use Rattle.plan_reader.specs.declared.rows.Row.TheVariants.{NoSuchTask}
use Rattle.plan_reader.specs.NameNumbers.{texts, has_name, number_of, first_repeat}
use Rattle.plan_reader.specs.Names.{names_in, once, dependency_numbers, dependencies_of, lacks_any, known_numbers, known_rows}
use Rattle.plan_reader.specs.Rows.{holds}
use Rattle.plan_reader.specs.Search.{row_refusal, refusal_of, table_at}
use Rattle.plan_table.proofs.lemmas.Positions.{position_any}
use Rattle.plan_reader.proofs.Quiet.{distinct, row_quiet}

pub at_place : (names : List Text) → first_repeat names ≡ None → (i : ℕ) (t : Text) → i < length names → get_or names i [] ≡ t → position (bytes_eq t) names ≡ Some i
at_place names none i t within is = by (position (bytes_eq t) names) refl
  where
    here : bytes_eq t (get_or names i []) ≡ true
    here = (bytes_eq-Decides t (get_or names i [])).1 (sym is)

    by : (o : Option ℕ) → position (bytes_eq t) names ≡ o → o ≡ Some i
    by None e = absurd (true≢false (sym (list_any_at (bytes_eq t) names i [] within here) ∙ sym (position_any (bytes_eq t) names) ∙ ap is_some e))
    by (Some j) e =
        let found = position-Some (bytes_eq t) names j [] e in
        elim (cases_lt j i) [
          | inl less ↦ absurd (distinct names none j i [] less within (sym ((bytes_eq-Decides t (get_or names j [])).0 found.1) ∙ sym is))
          | inr more ↦
              elim (cases_eq i j) [
                | inl same ↦ ap (λ k. Some k) (sym same)
                | inr other ↦ absurd (true≢false (sym here ∙ found.2 i (omega (arith, more, other))))
              ]
        ]

pub stands : (names : List (Bor (List ℕ))) (i : ℕ) (there : Bor (List ℕ)) (t : Text) (b : Bool) → i < length names → there ≡ get_or names i there → first_repeat (texts names) ≡ None
    → b ≡ bytes_eq there.now t → IsTrue b → position (bytes_eq t) (texts names) ≡ Some i
stands names i there t false within is none same passes = absurd (false≢true passes)
stands names i there t true within is none same passes =
    let shown : get_or (texts names) i [] ≡ there.now = get_or-map (λ s. s.now) names i there [] within ∙ ap (λ s. s.now) (sym is) in
    at_place (texts names) none i t (rw (length-map names (λ s. s.now)) within) (shown ∙ (bytes_eq-Decides there.now t).0 (sym same))

-- ---- what a look-up says

pub found_number : (names : List Text) (t : Text) (n : ℕ) → Some n ≡ position (bytes_eq t) names → n ≡ number_of names t
found_number names t n e = ap (λ o. unwrap_or o 0) e

pub found_within : (names : List Text) (t : Text) (n : ℕ) → Some n ≡ position (bytes_eq t) names → n < length names
found_within names t n e = (position-Some (bytes_eq t) names n [] (sym e)).0

pub found_name : (names : List Text) (t : Text) (n : ℕ) → Some n ≡ position (bytes_eq t) names → not (has_name names t) ≡ false
found_name names t n e = ap not (sym (ap is_some e ∙ position_any (bytes_eq t) names))

pub no_name : (names : List Text) (t : Text) → None ≡ position (bytes_eq t) names → not (has_name names t) ≡ true
no_name names t e = ap not (sym (ap is_some e ∙ position_any (bytes_eq t) names))

-- ---- elements so far

pub none_more : {X : Type 0} (p : X → Bool) (xs : List X) (i : ℕ) (x : X) → i < length xs → x ≡ get_or xs i x → list_any p (take i xs) ≡ false → p x ≡ false → list_any p (take (i + 1) xs) ≡ false
none_more p xs i x within is before here = list_any_more p xs i x within ∙ or_from (list_any p (take i xs)) (p (get_or xs i x)) before (ap p (sym is) ∙ here)

pub one_of : {X : Type 0} (p : X → Bool) (xs : List X) (i : ℕ) (x : X) → i < length xs → x ≡ get_or xs i x → p x ≡ true → list_any p xs ≡ true
one_of p xs i x within is here = list_any_at p xs i x within (ap p (sym is) ∙ here)

-- ---- the whole

pub all_known : {X : Type 0} (name : X → Text) (names : List Text) (xs : List X) (ns : List ℕ) → list_any (λ x. not (has_name names (name x))) xs ≡ false
    → ns ≡ once (map (λ x. number_of names (name x)) xs) → Some ns ≡ known_numbers names (map name xs)
all_known name names xs ns none are = rw (any_of_map (λ t. not (has_name names t)) name xs, none, map_of_map (number_of names) name xs) (ap (λ k. Some k) are)

pub one_unknown : {X : Type 0} (name : X → Text) (names : List Text) (xs : List X) → list_any (λ x. not (has_name names (name x))) xs ≡ true → None ≡ known_numbers names (map name xs)
one_unknown name names xs one = rw (any_of_map (λ t. not (has_name names t)) name xs, one) refl

-- of a row
pub row_known : (names ts : List Text) (ns : List ℕ) → Some ns ≡ known_numbers names ts → (lacks_any names ts ≡ false) × (ns ≡ once (map (number_of names) ts))
row_known names ts ns = by (lacks_any names ts)
  where
    by : (b : Bool) → Some ns ≡ cond b None (Some (once (map (number_of names) ts))) → (b ≡ false) × (ns ≡ once (map (number_of names) ts))
    by true e = absurd (none-some ns (sym e))
    by false e = (refl, same_Some ns _ e)

pub row_unknown : (names ts : List Text) → None ≡ known_numbers names ts → lacks_any names ts ≡ true
row_unknown names ts = by (lacks_any names ts)
  where
    by : (b : Bool) → None ≡ cond b None (Some (once (map (number_of names) ts))) → b ≡ true
    by true e = refl
    by false e = absurd (none-some (once (map (number_of names) ts)) e)

pub rows_known : {X : Type 0} (see : X → Data) (names : List Text) (xs : List X) (rows : List (List ℕ)) → list_any (λ x. lacks_any names (after_of (see x))) xs ≡ false
    → rows ≡ map (λ x. dependency_numbers names (see x)) xs → Some rows ≡ known_rows names (map see xs)
rows_known see names xs rows none are = rw (any_of_map (λ d. lacks_any names (after_of d)) see xs, none, map_of_map (dependency_numbers names) see xs) (ap (λ k. Some k) are)

pub rows_unknown : {X : Type 0} (see : X → Data) (names : List Text) (xs : List X) → list_any (λ x. lacks_any names (after_of (see x))) xs ≡ true → None ≡ known_rows names (map see xs)
rows_unknown see names xs one = rw (any_of_map (λ d. lacks_any names (after_of d)) see xs, one) refl

-- of the document
none_from_all : {X : Type 0} (p : X → Bool) (xs : List X) → All (λ x. p x ≡ false) xs → list_any p xs ≡ false
none_from_all p [] all = refl
none_from_all p (x ∷ xs) all = or_from (p x) (list_any p xs) (all 0 x (omega arith)) (none_from_all p xs (λ k d within. all (suc k) d (omega (arith, within))))

no_such_task : (d : Data) → list_any (λ t. lacks_any (names_in d).tasks (after_of t)) (tasks_of d) ≡ false → row_refusal d NoSuchTask ≡ None
no_such_task d none = ap (option_map (λ p. refusal_of NoSuchTask (table_at d p) p)) (no_first_place (holds (names_in d) NoSuchTask) d (or_from _ _ (never (projects_of d)) (or_from _ _ none (or_from _ _ (never (requirements_of d)) refl))))

pub dependencies_known : (d : Data) (rows : List (List ℕ)) → Some rows ≡ known_rows (names_in d).tasks (tasks_of d) → (row_refusal d NoSuchTask ≡ None) × (rows ≡ dependencies_of d)
dependencies_known d rows e = by (list_any (λ t. lacks_any (names_in d).tasks (after_of t)) (tasks_of d)) refl e
  where
    by : (b : Bool) → list_any (λ t. lacks_any (names_in d).tasks (after_of t)) (tasks_of d) ≡ b → Some rows ≡ cond b None (Some (dependencies_of d)) → (row_refusal d NoSuchTask ≡ None) × (rows ≡ dependencies_of d)
    by true is e = absurd (none-some rows (sym e))
    by false is e = (no_such_task d is, same_Some rows _ e)

pub one_is_refused : (d : Data) → None ≡ known_rows (names_in d).tasks (tasks_of d) → row_refusal d NoSuchTask ≡ None → ⊥
one_is_refused d e none = by (list_any (λ t. lacks_any (names_in d).tasks (after_of t)) (tasks_of d)) refl e
  where
    quiet : list_any (λ t. lacks_any (names_in d).tasks (after_of t)) (tasks_of d) ≡ false
    quiet = none_from_all _ (tasks_of d) (row_quiet d NoSuchTask none part.Task)

    by : (b : Bool) → list_any (λ t. lacks_any (names_in d).tasks (after_of t)) (tasks_of d) ≡ b → None ≡ cond b None (Some (dependencies_of d)) → ⊥
    by true is e = true≢false (sym is ∙ quiet)
    by false is e = none-some (dependencies_of d) e
