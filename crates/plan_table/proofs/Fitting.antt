-- Each value of a table may stand under its key exactly where no key is unknown and no value misfits by the rules.
use Rattle.std.proofs.Common.{◌≡◌, Bool, true, false, not, ◌&&◌, ◌||◌, List, [], ◌∷◌, map, All, Option, Some, None, is_some, codes, if◌then◌else◌, cond, refl, ap, sym, ◌∙◌}
use Rattle.std.proofs.Common.{ℕ, ◌<◌, ◌≤◌, length, zero, suc, get_or, arith, Vec, Global, string_bytes, Ordering, Less, Equal, Greater, nat_cmp, is_eq}
use Rattle.std.specs.Prelude.{count_by}
use Rattle.std.specs.List.{list_any, list_all}
use Rattle.std.specs.Option.{option_map_or}
use Rattle.std.specs.List.Sorted.{IsStrictlySortedBy}
use Rattle.std.specs.Ordering.{match_ordering, ordering_reverse}
use Rattle.std.specs.Cmp.Lexicographic.{slice_cmp}
use Rattle.std.specs.Str.{bytes_eq}
use Rattle.std.specs.String.{string_cmp}
use Rattle.std.proofs.lemmas.Bool.{true≢false, and_parts, or_parts, or_from, not-true, not-false}
use Rattle.std.proofs.lemmas.Option.{none-some, same_Some}
use Rattle.std.proofs.lemmas.Cmp.{nat_list_cmp_total}
use Rattle.std.proofs.lemmas.Map.Keys.{IsDistinct-from_sorted, Less-from_sorted, sorted_tail}
use Rattle.std.proofs.lemmas.List.{get_or-map, length-map}
use Rattle.std.proofs.lemmas.List.Elements.{All-head, All-tail}
use Rattle.std.proofs.lemmas.Map.Text.{is_eq-slice_cmp}
use Rattle.std.proofs.lemmas.Slice.Eq.{bytes_eq-Decides}
use Rattle.toml.specs.Data.{Data, table, get, get_member}
use Rattle.plan_document.specs.View.{view, members_view}
use Rattle.plan_document.specs.declared.values.Value.{Table}
use Rattle.plan_document.proofs.Views.{Entry, view-Table}
use Rattle.plan_table.specs.declared.rules.TableKind.{TableKind}
use Rattle.plan_table.specs.declared.rules.TableKind.TheVariants.{Document, Project, Task, Action, Item, Requirements}
use Rattle.plan_table.specs.declared.rules.KeyRule.{KeyRule}
use Rattle.plan_table.specs.Forms.{Text}
use Rattle.plan_table.specs.Rules.{Rule, rule_of, rules, has_type, has_form, fits}
use Rattle.plan_table.specs.Values.{keys_of}
use Rattle.plan_table.specs.Tables.{asks_for_process, counts, has_rule, has_idle_key, is_lacking, is_mistyped, is_misformed, lacks_more}
use Rattle.plan_table.specs.Look.{any_holds, is_allowed, is_required, required_keys, rule_for}
use Rattle.plan_table.proofs.Counting.{all_counted, count_of_map, has_key, has_own_keys, none_fails, one_fails, required_among, same_text, seen_entry}
use Rattle.plan_table.proofs.lemmas.LookLaws.{any_or, none_as_some}

-- ---- rules, each of which has a key of its own

own_keys : (kind : TableKind) → has_own_keys (rules kind) ≡ true
own_keys Document = refl
own_keys Project = refl
own_keys Task = refl
own_keys Action = refl
own_keys Item = refl
own_keys Requirements = refl

-- ---- a value that a rule lets stand under a key

known : (rs : List Rule) (key : Text) (v : Data) → is_allowed rs (key, v) ≡ true → has_rule rs key ≡ true
known [] key v h = h
known (r ∷ rs) key v h = by (bytes_eq r.key key) (known rs key v) h
  where
    by : (b : Bool) → (is_allowed rs (key, v) ≡ true → has_rule rs key ≡ true) → option_map_or (λ x. fits x.form v) (cond b (Some r) (rule_for rs key)) false ≡ true → (b || has_rule rs key) ≡ true
    by true rest e = refl
    by false rest e = rest e

-- a value doesn't fit what the rule of its key asks for
abbrev misfits : Data → Rule → Bool
misfits d r = option_map_or (λ v. not (fits r.form v)) (get r.key d) false

-- each value under a key of these rules is allowed
abbrev Allows : List Rule → Data → Type 0
Allows rs d = (key : Text) (v : Data) → get key d ≡ Some v → has_rule rs key ≡ true → is_allowed rs (key, v) ≡ true

behind : (r : Rule) (rs : List Rule) (d : Data) → has_rule rs r.key ≡ false → Allows (r ∷ rs) d → Allows rs d
behind r rs d own all key v at there = by (bytes_eq r.key key) refl (all key v at (or_right (bytes_eq r.key key) there))
  where
    or_right : (b : Bool) → has_rule rs key ≡ true → (b || has_rule rs key) ≡ true
    or_right true e = refl
    or_right false e = e

    by : (b : Bool) → bytes_eq r.key key ≡ b → option_map_or (λ x. fits x.form v) (cond b (Some r) (rule_for rs key)) false ≡ true → is_allowed rs (key, v) ≡ true
    by true same e = absurd (true≢false (sym there ∙ ap (has_rule rs) (sym (same_text r.key key same)) ∙ own))
    by false other e = e

none_misfits : (rs : List Rule) (d : Data) → has_own_keys rs ≡ true → Allows rs d → list_any (misfits d) rs ≡ false
none_misfits [] d own all = refl
none_misfits (r ∷ rs) d own all =
    let (first, more) = and_parts (not (has_rule rs r.key)) (has_own_keys rs) own in
    let alone = not-true (has_rule rs r.key) first in
    or_from (misfits d r) _ (by (get r.key d) refl) (none_misfits rs d more (behind r rs d alone all))
  where
    itself : bytes_eq r.key r.key ≡ true
    itself = (bytes_eq-Decides r.key r.key).1 refl

    by : (o : Option Data) → get r.key d ≡ o → option_map_or (λ v. not (fits r.form v)) o false ≡ false
    by None e = refl
    by (Some v) e =
        let all_here = all r.key v e (ap (λ b. b || has_rule rs r.key) itself) in
        ap not (sym (ap (λ b. option_map_or (λ x. fits x.form v) (cond b (Some r) (rule_for rs r.key)) false) itself) ∙ all_here)

-- ---- the entries of a table

abbrev all_pass : (Text × Data → Bool) → List Entry → Bool
all_pass p es = list_all p (map seen_entry es)

-- what holds of each entry holds of the key and the value that are found
under : (p : Text × Data → Bool) (key : Text) (v : Data) (es : List Entry) → all_pass p es ≡ true → get_member key (members_view es) ≡ Some v → p (key, v) ≡ true
under p key v [] h at = absurd (none-some v at)
under p key v (e ∷ es) h at =
    let (first, more) = and_parts (p (seen_entry e)) (all_pass p es) h in
    by first (under p key v es more) (slice_cmp nat_cmp key (string_bytes e.0)) refl at
  where
    by : p (seen_entry e) ≡ true → (get_member key (members_view es) ≡ Some v → p (key, v) ≡ true)
        → (o : Ordering) → slice_cmp nat_cmp key (string_bytes e.0) ≡ o
        → match_ordering o (get_member key (members_view es)) (Some (view e.1)) (get_member key (members_view es)) ≡ Some v → p (key, v) ≡ true
    by first rest Less same a = rest a
    by first rest Greater same a = rest a
    by first rest Equal same a =
        let one : key ≡ string_bytes e.0 = same_text key (string_bytes e.0) (sym (is_eq-slice_cmp key (string_bytes e.0)) ∙ ap is_eq same) in
        ap (λ k. p (k, v)) one ∙ ap (λ d. p (string_bytes e.0, d)) (sym (same_Some (view e.1) v a)) ∙ first

abbrev other_keys : List Rule → List Entry → Bool
other_keys rs es = list_any (λ key. not (has_rule rs key)) (keys_of (members_view es))

none_other : (rs : List Rule) (es : List Entry) → all_pass (is_allowed rs) es ≡ true → other_keys rs es ≡ false
none_other rs [] h = refl
none_other rs (e ∷ es) h =
    let (first, more) = and_parts (is_allowed rs (seen_entry e)) (all_pass (is_allowed rs) es) h in
    or_from (not (has_rule rs (string_bytes e.0))) _ (ap not (known rs (string_bytes e.0) (view e.1) first)) (none_other rs es more)

-- a value under a known key where none misfits
allowed : (rs : List Rule) (key : Text) (d v : Data) → get key d ≡ Some v → has_rule rs key ≡ true → list_any (misfits d) rs ≡ false → is_allowed rs (key, v) ≡ true
allowed [] key d v at there fit = there
allowed (r ∷ rs) key d v at there fit =
    let (first, more) = or_parts (misfits d r) (list_any (misfits d) rs) fit in
    by (bytes_eq r.key key) refl there first (λ e. allowed rs key d v at e more)
  where
    by : (b : Bool) → bytes_eq r.key key ≡ b → (b || has_rule rs key) ≡ true → misfits d r ≡ false → (has_rule rs key ≡ true → is_allowed rs (key, v) ≡ true)
        → option_map_or (λ x. fits x.form v) (cond b (Some r) (rule_for rs key)) false ≡ true
    by true same e first rest =
        let found : get r.key d ≡ Some v = ap (λ k. get k d) (same_text r.key key same) ∙ at in
        not-false _ (ap (λ o. option_map_or (λ x. not (fits r.form x)) o false) (sym found) ∙ first)
    by false other e first rest = rest e

-- each entry is the one that is found at its key
abbrev AreFound : List Entry → Data → Type 0
AreFound es d = All (λ e. get (string_bytes e.0) d ≡ Some (view e.1)) es

each_allowed : (rs : List Rule) (d : Data) (es : List Entry) → AreFound es d → other_keys rs es ≡ false → list_any (misfits d) rs ≡ false → all_pass (is_allowed rs) es ≡ true
each_allowed rs d [] found known' fit = refl
each_allowed rs d (e ∷ es) found known' fit =
    let (first, more) = or_parts (not (has_rule rs (string_bytes e.0))) _ known' in
    let one = allowed rs (string_bytes e.0) d (view e.1) (All-head (λ x. get (string_bytes x.0) d ≡ Some (view x.1)) e es found) (not-false _ first) fit in
    ap (λ b. b && all_pass (is_allowed rs) es) one ∙ each_allowed rs d es (All-tail (λ x. get (string_bytes x.0) d ≡ Some (view x.1)) e es found) more fit

opposite : (a b : Bool) → (a ≡ true → b ≡ false) → (b ≡ false → a ≡ true) → a ≡ not b
opposite true b f g = sym (ap not (f refl))
opposite false true f g = refl
opposite false false f g = g refl

fitting : (kind : TableKind) (es : List Entry) → AreFound es (table (members_view es))
    → all_pass (is_allowed (rules kind)) es ≡ not (other_keys (rules kind) es || list_any (misfits (table (members_view es))) (rules kind))
fitting kind es found =
    opposite (all_pass (is_allowed (rules kind)) es) _
    (λ all. or_from _ _ (none_other (rules kind) es all) (none_misfits (rules kind) (table (members_view es)) (own_keys kind) (λ key v at there. under (is_allowed (rules kind)) key v es all at)))
    (λ none. let both = or_parts (other_keys (rules kind) es) _ none in each_allowed (rules kind) (table (members_view es)) es found both.0 both.1)

-- ---- the keys that have to be there

lacks : (es : List Entry) (rs : List Rule) → list_any (is_lacking (table (members_view es))) rs ≡ list_any (λ r. r.required && not (has_key es r)) rs
lacks es rs = ap (λ p. list_any p rs) (λ i r. ap (λ b. r.required && b) (none_as_some (get_member r.key (members_view es))) i)

-- where each key that is there has to be, none is idle
idle_where : (kind : TableKind) (es : List Entry) → all_pass (is_required (rules kind)) es ≡ true → has_idle_key kind (table (members_view es)) ≡ false
idle_where Document es all = refl
idle_where Project es all = refl
idle_where Task es all = refl
idle_where Action es all = refl
idle_where Requirements es all = refl
idle_where Item es all = or_from _ _ (none_at (codes "needle") (counts (table (members_view es))) refl) (none_at (codes "requirements") (asks_for_process (table (members_view es))) refl)
  where
    none_at : (key : Text) (b : Bool) → option_map_or (λ r. r.required) (rule_for (rules Item) key) false ≡ false → (is_some (get_member key (members_view es)) && not b) ≡ false
    none_at key b optional = by (get_member key (members_view es)) refl
      where
        by : (o : Option Data) → get_member key (members_view es) ≡ o → (is_some o && not b) ≡ false
        by None e = refl
        by (Some v) e = absurd (true≢false (sym (under (is_required (rules Item)) key v es all e) ∙ optional))

-- ---- a table, by its tests

either : (d : Data) (r : Rule) → misfits d r ≡ (is_mistyped d r || is_misformed d r)
either d r = by (get r.key d)
  where
    both : (a b : Bool) → not (a && b) ≡ (not a || not b)
    both true b = refl
    both false b = refl

    by : (o : Option Data) → option_map_or (λ v. not (fits r.form v)) o false ≡ (option_map_or (λ v. not (has_type r.form v)) o false || option_map_or (λ v. not (has_form r.form v)) o false)
    by None = refl
    by (Some v) = both (has_type r.form v) (has_form r.form v)

any_misfits : (d : Data) (rs : List Rule) → list_any (misfits d) rs ≡ (list_any (is_mistyped d) rs || list_any (is_misformed d) rs)
any_misfits d rs = ap (λ f. list_any f rs) (λ i r. either d r i) ∙ any_or (is_mistyped d) (is_misformed d) rs

-- unknown, idle, mistyped, lacking, lacking beside others and misformed, in the order of the tests and in that of the look
reordered : (u i t l m f : Bool) → ((u || i) || (t || ((l || m) || (f || false)))) ≡ (not (not (u || (t || f))) || (l || (m || i)))
reordered true i t l m f = refl
reordered false true true l m f = refl
reordered false true false true m true = refl
reordered false true false true m false = refl
reordered false true false false true true = refl
reordered false true false false true false = refl
reordered false true false false false true = refl
reordered false true false false false false = refl
reordered false false true l m f = refl
reordered false false false true m true = refl
reordered false false false true m false = refl
reordered false false false false true true = refl
reordered false false false false true false = refl
reordered false false false false false true = refl
reordered false false false false false false = refl

-- the rules that the code has, as the table's
pub as_rules : (ks : List KeyRule) (kind : TableKind) (o : Option ℕ) (es : List (Text × Data)) → map rule_of ks ≡ rules kind → o ≡ required_keys (map rule_of ks) es → o ≡ required_keys (rules kind) es
as_rules ks kind o es same is = is ∙ ap (λ rs. required_keys rs es) same

pub as_many : (ks : List KeyRule) (kind : TableKind) → map rule_of ks ≡ rules kind → count_by (λ r. r.is_required) ks ≡ count_by (λ r. r.required) (rules kind)
as_many ks kind same = count_of_map (λ r. r.required) rule_of ks ∙ ap (count_by (λ r. r.required)) same

-- where keys rise, each entry is the one that is found at its key
found_entries : (es : List Entry) → IsStrictlySortedBy string_cmp (map (λ e. e.0) es) → AreFound es (table (members_view es))
found_entries [] sorted k d within = absurd (omega (arith, within))
found_entries (e ∷ es) sorted zero d within = ap (λ o. match_ordering o (get_member key (members_view es)) (Some (view e.1)) (get_member key (members_view es))) itself
  where
    key : Text
    key = string_bytes e.0

    equal_from : (o : Ordering) → is_eq o ≡ true → o ≡ Equal
    equal_from Less is = absurd (true≢false (sym is))
    equal_from Equal is = refl
    equal_from Greater is = absurd (true≢false (sym is))

    -- it is neither below nor above itself
    itself : slice_cmp nat_cmp key key ≡ Equal
    itself = equal_from (slice_cmp nat_cmp key key) (is_eq-slice_cmp key key ∙ (bytes_eq-Decides key key).1 refl)
found_entries (e ∷ es) sorted (suc k) d within =
    let x = get_or es k d in
    let rest = get_member (string_bytes x.0) (members_view es) in
    let long : suc k < length (map (λ y. y.0) (e ∷ es)) = rw (length-map (e ∷ es) (λ y. y.0)) within in
    let less : string_cmp e.0 x.0 ≡ Less =
    ap (string_cmp e.0) (sym (get_or-map (λ y. y.0) (e ∷ es) (suc k) d e.0 within)) ∙ Less-from_sorted string_cmp (map (λ y. y.0) (e ∷ es)) 0 (suc k) e.0 sorted (omega arith) long in
    let above : slice_cmp nat_cmp (string_bytes x.0) (string_bytes e.0) ≡ Greater = nat_list_cmp_total.antisymm (string_bytes x.0) (string_bytes e.0) ∙ ap ordering_reverse less in
    ap (λ o. match_ordering o rest (Some (view e.1)) rest) above ∙ found_entries es (sorted_tail string_cmp e.0 (map (λ y. y.0) es) sorted) k d (omega (arith, within))

module _ (kind : TableKind) (m : Vec Entry Global) (rising : IsStrictlySortedBy string_cmp (map (λ e. e.0) m.items)) where
  abbrev d : Data
  d = table (members_view m.items)

  abbrev rs : List Rule
  rs = rules kind

  tested : any_holds kind d ≡ (not (all_pass (is_allowed rs) m.items) || (list_any (is_lacking d) rs || (lacks_more kind d || has_idle_key kind d)))
  tested =
      reordered (other_keys rs m.items) (has_idle_key kind d) (list_any (is_mistyped d) rs) (list_any (is_lacking d) rs) (lacks_more kind d) (list_any (is_misformed d) rs)
      ∙ ap (λ b. not (not (other_keys rs m.items || b)) || (list_any (is_lacking d) rs || (lacks_more kind d || has_idle_key kind d))) (sym (any_misfits d rs))
      ∙ ap (λ b. not b || (list_any (is_lacking d) rs || (lacks_more kind d || has_idle_key kind d))) (sym (fitting kind m.items (found_entries m.items rising)))

  -- a key may not be there
  pub seen_wrong : None ≡ required_keys rs (map seen_entry m.items) → any_holds kind (view (Table m)) ≡ true
  seen_wrong none = rw (view-Table m) (tested ∙ ap (λ b. not b || (list_any (is_lacking d) rs || (lacks_more kind d || has_idle_key kind d))) (by (all_pass (is_allowed rs) m.items) none))
    where
      by : (b : Bool) → None ≡ (if b then Some (count_by (is_required rs) (map seen_entry m.items)) else None) → b ≡ false
      by true e = absurd (none-some (count_by (is_required rs) (map seen_entry m.items)) e)
      by false e = refl

  module _ (n : ℕ) (some : Some n ≡ required_keys rs (map seen_entry m.items)) where
    counted : (all_pass (is_allowed rs) m.items ≡ true) × (n ≡ count_by (is_required rs) (map seen_entry m.items))
    counted = by (all_pass (is_allowed rs) m.items) some
      where
        by : (b : Bool) → Some n ≡ (if b then Some (count_by (is_required rs) (map seen_entry m.items)) else None) → (b ≡ true) × (n ≡ count_by (is_required rs) (map seen_entry m.items))
        by true e = (refl, same_Some n _ e)
        by false e = absurd (none-some n (sym e))

    among : n ≡ count_by (λ r. r.required && has_key m.items r) rs
    among = counted.1 ∙ required_among rs m.items (own_keys kind) (IsDistinct-from_sorted string_cmp (map (λ e. e.0) m.items) rising)

    seen : any_holds kind (view (Table m)) ≡ (list_any (is_lacking d) rs || (lacks_more kind d || has_idle_key kind d))
    seen = rw (view-Table m) (tested ∙ ap (λ b. not b || (list_any (is_lacking d) rs || (lacks_more kind d || has_idle_key kind d))) counted.0)

    -- fewer are there than have to be
    pub seen_fewer : n < count_by (λ r. r.required) rs → any_holds kind (view (Table m)) ≡ true
    seen_fewer lt = seen ∙ ap (λ b. b || (lacks_more kind d || has_idle_key kind d)) (lacks m.items rs ∙ one_fails (has_key m.items) rs (omega (arith, among, lt)))

    pub seen_all : count_by (λ r. r.required) rs ≤ n → any_holds kind (view (Table m)) ≡ (lacks_more kind (view (Table m)) || has_idle_key kind (view (Table m)))
    seen_all le = rw (view-Table m) (rw (view-Table m) at seen ∙ ap (λ b. b || (lacks_more kind d || has_idle_key kind d)) (lacks m.items rs ∙ none_fails (has_key m.items) rs (omega (arith, among, le))))

    -- no other key is there
    pub none_idle : length m.items ≤ n → has_idle_key kind (view (Table m)) ≡ false
    none_idle le = rw (view-Table m) (idle_where kind m.items (all_counted (is_required rs) (map seen_entry m.items) (omega (arith, counted.1, le, length-map m.items seen_entry))))
