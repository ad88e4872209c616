-- A TOML value's members, keys and pairs beside the lists that the code goes over.
use Rattle.std.proofs.Common.{cond, ◌+◌, ◌≡◌, Bool, true, false, is_some, ◌||◌, ◌&&◌, List, [], ◌∷◌, length, map, Some, option_map, refl, ap, ◌∙◌, Global, Vec, string_bytes}
use Rattle.std.specs.List.{find, list_any, list_all, position, position_or_len}
use Rattle.std.proofs.lemmas.List.{length-map}
use Rattle.plan_document.specs.declared.values.Value.{Value, Array, Table}
use Rattle.toml.specs.Data.{Data, as_array}
use Rattle.plan_document.specs.View.{view, items_view, members_view}
use Rattle.plan_document.proofs.Views.{Entry, view-Array, view-Table}
use Rattle.plan_table.specs.Values.{list_of, keys_of, pairs_of, values_of, elements, table_pairs, text_of, texts_of, is_text, is_array_of_texts, is_table_of_texts}
use Rattle.plan_table.specs.Forms.{Text}
use Rattle.plan_table.specs.Rules.{Rule, is_setting, rule_of}
use Rattle.plan_table.specs.declared.rules.KeyRule.{KeyRule}
use Rattle.plan_table.specs.Tables.{has_rule, has_other_key}
use Rattle.std.proofs.Common.{not}

pub any_of_map : {X Y : Type 0} (p : Y → Bool) (h : X → Y) (xs : List X) → list_any p (map h xs) ≡ list_any (λ x. p (h x)) xs
any_of_map p h [] = refl
any_of_map p h (x ∷ xs) = ap (λ b. p (h x) || b) (any_of_map p h xs)

pub all_of_map : {X Y : Type 0} (p : Y → Bool) (h : X → Y) (xs : List X) → list_all p (map h xs) ≡ list_all (λ x. p (h x)) xs
all_of_map p h [] = refl
all_of_map p h (x ∷ xs) = ap (λ b. p (h x) && b) (all_of_map p h xs)

pub find_of_map : {X Y : Type 0} (p : Y → Bool) (h : X → Y) (xs : List X) → find p (map h xs) ≡ option_map h (find (λ x. p (h x)) xs)
find_of_map p h [] = refl
find_of_map p h (x ∷ xs) = by (p (h x)) (find_of_map p h xs)
  where
    by : (b : Bool) → find p (map h xs) ≡ option_map h (find (λ y. p (h y)) xs) → cond b (Some (h x)) (find p (map h xs)) ≡ option_map h (cond b (Some x) (find (λ y. p (h y)) xs))
    by true e = refl
    by false e = e

position_or_len_of_map : {X Y : Type 0} (p : Y → Bool) (h : X → Y) (xs : List X) → position_or_len p (map h xs) ≡ position_or_len (λ x. p (h x)) xs
position_or_len_of_map p h [] = refl
position_or_len_of_map p h (x ∷ xs) = ap (λ n. cond (not (p (h x))) (1 + n) 0) (position_or_len_of_map p h xs)

pub position_of_map : {X Y : Type 0} (p : Y → Bool) (h : X → Y) (xs : List X) → position p (map h xs) ≡ position (λ x. p (h x)) xs
position_of_map p h xs = rw (position_or_len_of_map p h xs, length-map xs h) refl

pub position_of_elements : (p : Data → Bool) (vs : List Value) (ds : List Data) → map view vs ≡ ds → position p ds ≡ position (λ v. p (view v)) vs
position_of_elements p vs ds e = rw (← e) (position_of_map p view vs)

pub map_of_map : {X Y Z : Type 0} (f : Y → Z) (h : X → Y) (xs : List X) → map f (map h xs) ≡ map (λ x. f (h x)) xs
map_of_map f h [] = refl
map_of_map f h (x ∷ xs) = ap (λ ys. f (h x) ∷ ys) (map_of_map f h xs)

pub list_of_view : (vs : List Value) → list_of (items_view vs) ≡ map view vs
list_of_view [] = refl
list_of_view (v ∷ vs) = ap (λ ds. view v ∷ ds) (list_of_view vs)

pub keys_of_view : (es : List Entry) → keys_of (members_view es) ≡ map (λ e. string_bytes e.0) es
keys_of_view [] = refl
keys_of_view (e ∷ es) = ap (λ ks. string_bytes e.0 ∷ ks) (keys_of_view es)

pub pairs_of_view : (es : List Entry) → pairs_of (members_view es) ≡ map (λ e. (string_bytes e.0, text_of (view e.1))) es
pairs_of_view [] = refl
pairs_of_view (e ∷ es) = ap (λ ps. (string_bytes e.0, text_of (view e.1)) ∷ ps) (pairs_of_view es)

-- the members of an array
pub elements_of_array : (v : Vec Value Global) → elements (Some (view (Array v))) ≡ map view v.items
elements_of_array v = rw (view-Array v) (list_of_view v.items)

-- the members of an array that are seen as these, each as its text
pub texts_of_elements : (vs : List Value) (ds : List Data) → map view vs ≡ ds → map text_of ds ≡ map (λ v. text_of (view v)) vs
texts_of_elements vs ds e = rw (← e) (map_of_map text_of view vs)

-- the pairs of a table
pub pairs_of_table : (m : Vec Entry Global) → table_pairs (Some (view (Table m))) ≡ map (λ e. (string_bytes e.0, text_of (view e.1))) m.items
pairs_of_table m = rw (view-Table m) (pairs_of_view m.items)

pub length_of_view : (vs : List Value) → length (map view vs) ≡ length vs
length_of_view vs = length-map vs view

-- a test of the members, beside the values that are seen as them
pub all_of_elements : (p : Data → Bool) (vs : List Value) (ds : List Data) → map view vs ≡ ds → list_all p ds ≡ list_all (λ v. p (view v)) vs
all_of_elements p vs ds e = rw (← e) (all_of_map p view vs)

pub any_of_elements : (p : Data → Bool) (vs : List Value) (ds : List Data) → map view vs ≡ ds → list_any p ds ≡ list_any (λ v. p (view v)) vs
any_of_elements p vs ds e = rw (← e) (any_of_map p view vs)

-- a test of the texts of an array
pub all_of_texts : (p : Text → Bool) (vs : List Value) (ds : List Data) → map view vs ≡ ds → list_all p (map text_of ds) ≡ list_all (λ v. p (text_of (view v))) vs
all_of_texts p vs ds e = all_of_map p text_of ds ∙ all_of_elements (λ d. p (text_of d)) vs ds e

values_of_view : (es : List Entry) → values_of (members_view es) ≡ map (λ e. view e.1) es
values_of_view [] = refl
values_of_view (e ∷ es) = ap (λ ds. view e.1 ∷ ds) (values_of_view es)

-- the values of a table
pub texts_of_table : (m : Vec Entry Global) → is_table_of_texts (view (Table m)) ≡ list_all (λ e. is_text (view e.1)) m.items
texts_of_table m =
    rw (view-Table m, values_of_view m.items) (all_of_map is_text (λ e. view e.1) m.items)

-- the pairs of a table, as settings
pub settings_of_table : (m : Vec Entry Global)
    → list_all is_setting (table_pairs (Some (view (Table m)))) ≡ list_all (λ e. is_setting (string_bytes e.0, text_of (view e.1))) m.items
settings_of_table m = rw (pairs_of_table m) (all_of_map is_setting (λ e. (string_bytes e.0, text_of (view e.1))) m.items)

-- the keys of a table
pub other_key_of_table : (rs : List Rule) (m : Vec Entry Global)
    → has_other_key rs (view (Table m)) ≡ list_any (λ e. not (has_rule rs (string_bytes e.0))) m.items
other_key_of_table rs m =
    rw (view-Table m, keys_of_view m.items) (any_of_map (λ k. not (has_rule rs k)) (λ e. string_bytes e.0) m.items)

-- a test of the rules, beside those that the code has
pub any_of_rules : (p : Rule → Bool) (ks : List KeyRule) (rs : List Rule) → map rule_of ks ≡ rs → list_any p rs ≡ list_any (λ k. p (rule_of k)) ks
any_of_rules p ks rs e = rw (← e) (any_of_map p rule_of ks)

-- ---- two tests of a list are one

four : (a b c d e : Bool) → (c && d) ≡ e → ((a && c) && (b && d)) ≡ ((a && b) && e)
four true true c d e h = h
four true false true d e h = refl
four true false false d e h = refl
four false b c d e h = refl

both_of_all : {X : Type 0} (p q : X → Bool) (xs : List X) → (list_all p xs && list_all q xs) ≡ list_all (λ x. p x && q x) xs
both_of_all p q [] = refl
both_of_all p q (x ∷ xs) = four (p x) (q x) (list_all p xs) (list_all q xs) _ (both_of_all p q xs)

all_texts : (f : Text → Bool) (vs : List Value) (ds : List Data) → ds ≡ map view vs
    → (list_all is_text ds && list_all f (map text_of ds)) ≡ list_all (λ v. is_text (view v) && f (text_of (view v))) vs
all_texts f vs ds e =
    rw (e, all_of_map is_text view vs, map_of_map text_of view vs, all_of_map f (λ v. text_of (view v)) vs)
    (both_of_all (λ v. is_text (view v)) (λ v. f (text_of (view v))) vs)

pub texts_of_array : (f : Text → Bool) (v : Vec Value Global)
    → (is_array_of_texts (view (Array v)) && list_all f (texts_of (view (Array v)))) ≡ list_all (λ x. is_text (view x) && f (text_of (view x))) v.items
texts_of_array f v =
    ap (λ b. (b && list_all is_text (elements (Some (view (Array v))))) && list_all f (map text_of (elements (Some (view (Array v)))))) (is_array_of v)
    ∙ all_texts f v.items _ (elements_of_array v)
  where
    is_array_of : (w : Vec Value Global) → is_some (as_array (view (Array w))) ≡ true
    is_array_of w = rw (view-Array w) refl
