-- The keys that have to be there, counted among those that are there and among the rules.
use Rattle.std.proofs.Common.{◌≡◌, ℕ, ◌+◌, ◌<◌, ◌≤◌, Bool, true, false, cond, not, ◌&&◌, ◌||◌, is_some, List, [], ◌∷◌, length, map, Option, Some, refl, ap, sym, ◌∙◌, arith, Global, String, string_bytes, Ordering, Less, Equal, Greater, nat_cmp, is_eq}
use Rattle.std.specs.Prelude.{count_by}
use Rattle.std.specs.List.{AllByRecursion, IsDistinct, list_any, list_all}
use Rattle.std.specs.Option.{option_map_or}
use Rattle.std.specs.Ordering.{eq_by_cmp, match_ordering}
use Rattle.std.specs.Cmp.Lexicographic.{slice_cmp}
use Rattle.std.specs.Str.{bytes_eq}
use Rattle.std.specs.String.{string_cmp}
use Rattle.std.proofs.lemmas.Bool.{and_parts, or_parts, not-true}
use Rattle.std.proofs.lemmas.List.Sums.{sum_by-cons, count_by-le-length}
use Rattle.std.proofs.lemmas.Map.Text.{is_eq-slice_cmp}
use Rattle.std.proofs.lemmas.Slice.Eq.{bytes_eq-Decides}
use Rattle.toml.specs.Data.{Data, get_member}
use Rattle.plan_document.specs.View.{view, members_view}
use Rattle.plan_document.proofs.Views.{Entry}
use Rattle.plan_table.specs.Forms.{Text}
use Rattle.plan_table.specs.Look.{is_required, rule_for}
use Rattle.plan_table.specs.Rules.{Rule}
use Rattle.plan_table.specs.Tables.{has_rule}

-- an entry of a table, as it is seen
abbrev pub seen_entry : Entry → Text × Data
seen_entry e = (string_bytes e.0, view e.1)

abbrev pub has_own_keys : List Rule → Bool
has_own_keys [] = true
has_own_keys (r ∷ rs) = not (has_rule rs r.key) && has_own_keys rs

pub same_text : (a b : Text) → bytes_eq a b ≡ true → a ≡ b
same_text a b e = (bytes_eq-Decides a b).0 e

-- ---- how many pass

count-cons : {X : Type 0} (p : X → Bool) (x : X) (xs : List X) → count_by p (x ∷ xs) ≡ cond (p x) 1 0 + count_by p xs
count-cons p x xs = sum_by-cons (λ y. cond (p y) 1 0) x xs

pub count_of_map : {X Y : Type 0} (p : Y → Bool) (h : X → Y) (xs : List X) → count_by (λ x. p (h x)) xs ≡ count_by p (map h xs)
count_of_map p h [] = refl
count_of_map p h (x ∷ xs) = count-cons (λ y. p (h y)) x xs ∙ ap (λ n. cond (p (h x)) 1 0 + n) (count_of_map p h xs) ∙ sym (count-cons p (h x) (map h xs))

-- all of them, where there are no more
pub all_counted : {X : Type 0} (p : X → Bool) (xs : List X) → length xs ≤ count_by p xs → list_all p xs ≡ true
all_counted p [] le = refl
all_counted p (x ∷ xs) le = by (p x) (count-cons p x xs) (λ l. all_counted p xs l)
  where
    by : (b : Bool) → count_by p (x ∷ xs) ≡ cond b 1 0 + count_by p xs → (length xs ≤ count_by p xs → list_all p xs ≡ true) → (b && list_all p xs) ≡ true
    by true is rest = rest (omega (arith, is, le))
    by false is rest = absurd (omega (arith, is, le, count_by-le-length p xs))

-- ---- the rules that ask for a key, of which those that pass are counted

abbrev asked : (Rule → Bool) → Rule → Bool
asked p r = r.required && p r

abbrev needs : List Rule → Text → Bool
needs rs key = option_map_or (λ r. r.required) (rule_for rs key) false

asked_other : (p : Rule → Bool) (key : Text) (rs : List Rule) → has_rule rs key ≡ false → count_by (asked (λ r. bytes_eq r.key key || p r)) rs ≡ count_by (asked p) rs
asked_other p key [] none = refl
asked_other p key (r ∷ rs) none =
    let (first, more) = or_parts (bytes_eq r.key key) (has_rule rs key) none in
    count-cons (asked (λ x. bytes_eq x.key key || p x)) r rs
    ∙ ap (λ b. cond (r.required && (b || p r)) 1 0 + count_by (asked (λ x. bytes_eq x.key key || p x)) rs) first
    ∙ ap (λ n. cond (r.required && p r) 1 0 + n) (asked_other p key rs more)
    ∙ sym (count-cons (asked p) r rs)

asked_one : (p : Rule → Bool) (key : Text) (rs : List Rule) → has_own_keys rs ≡ true → ((r : Rule) → bytes_eq r.key key ≡ true → p r ≡ false)
    → count_by (asked (λ r. bytes_eq r.key key || p r)) rs ≡ cond (needs rs key) 1 0 + count_by (asked p) rs
asked_one p key [] own other = refl
asked_one p key (r ∷ rs) own other =
    let (first, more) = and_parts (not (has_rule rs r.key)) (has_own_keys rs) own in
    count-cons (asked (λ x. bytes_eq x.key key || p x)) r rs ∙ by (bytes_eq r.key key) refl first (asked_one p key rs more other) ∙ ap (λ n. cond (needs (r ∷ rs) key) 1 0 + n) (sym (count-cons (asked p) r rs))
  where
    swapped : (k m n : ℕ) → k + (m + n) ≡ m + (k + n)
    swapped k m n = omega arith

    nothing_more : (k n : ℕ) → k + n ≡ k + (0 + n)
    nothing_more k n = omega arith

    alone : (q : Bool) (n : ℕ) → cond (q && true) 1 0 + n ≡ cond q 1 0 + (cond (q && false) 1 0 + n)
    alone true n = nothing_more 1 n
    alone false n = nothing_more 0 n

    by : (b : Bool) → bytes_eq r.key key ≡ b → not (has_rule rs r.key) ≡ true → count_by (asked (λ x. bytes_eq x.key key || p x)) rs ≡ cond (needs rs key) 1 0 + count_by (asked p) rs
        → cond (r.required && (b || p r)) 1 0 + count_by (asked (λ x. bytes_eq x.key key || p x)) rs
        ≡ cond (option_map_or (λ x. x.required) (cond b (Some r) (rule_for rs key)) false) 1 0 + (cond (r.required && p r) 1 0 + count_by (asked p) rs)
    by true same first rest =
        let none : has_rule rs key ≡ false = sym (ap (has_rule rs) (same_text r.key key same)) ∙ not-true (has_rule rs r.key) first in
        ap (λ n. cond (r.required && true) 1 0 + n) (asked_other p key rs none)
        ∙ alone r.required (count_by (asked p) rs)
        ∙ ap (λ c. cond r.required 1 0 + (cond (r.required && c) 1 0 + count_by (asked p) rs)) (sym (other r same))
    by false differs first rest =
        ap (λ n. cond (r.required && p r) 1 0 + n) rest ∙ swapped (cond (r.required && p r) 1 0) (cond (needs rs key) 1 0) (count_by (asked p) rs)

never_asked : (rs : List Rule) → count_by (asked (λ r. false)) rs ≡ 0
never_asked [] = refl
never_asked (r ∷ rs) = count-cons (asked (λ x. false)) r rs ∙ ap (λ n. cond (r.required && false) 1 0 + n) (never_asked rs) ∙ none r.required
  where
    none : (q : Bool) → cond (q && false) 1 0 + 0 ≡ 0
    none true = refl
    none false = refl

fewer : (p : Rule → Bool) (rs : List Rule) → count_by (asked p) rs ≤ count_by (λ r. r.required) rs
fewer p [] = omega arith
fewer p (r ∷ rs) = by r.required (p r) (count-cons (asked p) r rs) (count-cons (λ x. x.required) r rs) (fewer p rs)
  where
    by : (q b : Bool) → count_by (asked p) (r ∷ rs) ≡ cond (q && b) 1 0 + count_by (asked p) rs → count_by (λ x. x.required) (r ∷ rs) ≡ cond q 1 0 + count_by (λ x. x.required) rs
        → count_by (asked p) rs ≤ count_by (λ x. x.required) rs → count_by (asked p) (r ∷ rs) ≤ count_by (λ x. x.required) (r ∷ rs)
    by true true m n le = omega (arith, m, n, le)
    by true false m n le = omega (arith, m, n, le)
    by false b m n le = omega (arith, m, n, le)

abbrev fails_one : (Rule → Bool) → List Rule → Bool
fails_one p rs = list_any (λ r. r.required && not (p r)) rs

-- none that asks fails, where as many pass
pub none_fails : (p : Rule → Bool) (rs : List Rule) → count_by (λ r. r.required) rs ≤ count_by (asked p) rs → fails_one p rs ≡ false
none_fails p [] le = refl
none_fails p (r ∷ rs) le = by r.required (p r) (count-cons (asked p) r rs) (count-cons (λ x. x.required) r rs) (λ l. none_fails p rs l)
  where
    by : (q b : Bool) → count_by (asked p) (r ∷ rs) ≡ cond (q && b) 1 0 + count_by (asked p) rs → count_by (λ x. x.required) (r ∷ rs) ≡ cond q 1 0 + count_by (λ x. x.required) rs
        → (count_by (λ x. x.required) rs ≤ count_by (asked p) rs → fails_one p rs ≡ false) → ((q && not b) || fails_one p rs) ≡ false
    by true true m n rest = rest (omega (arith, m, n, le))
    by true false m n rest = absurd (omega (arith, m, n, le, fewer p rs))
    by false b m n rest = rest (omega (arith, m, n, le))

-- one that asks fails, where fewer pass
pub one_fails : (p : Rule → Bool) (rs : List Rule) → count_by (asked p) rs < count_by (λ r. r.required) rs → fails_one p rs ≡ true
one_fails p [] lt = absurd (omega (arith, lt))
one_fails p (r ∷ rs) lt = by r.required (p r) (count-cons (asked p) r rs) (count-cons (λ x. x.required) r rs) (λ l. one_fails p rs l)
  where
    by : (q b : Bool) → count_by (asked p) (r ∷ rs) ≡ cond (q && b) 1 0 + count_by (asked p) rs → count_by (λ x. x.required) (r ∷ rs) ≡ cond q 1 0 + count_by (λ x. x.required) rs
        → (count_by (asked p) rs < count_by (λ x. x.required) rs → fails_one p rs ≡ true) → ((q && not b) || fails_one p rs) ≡ true
    by true true m n rest = rest (omega (arith, m, n, lt))
    by true false m n rest = refl
    by false b m n rest = rest (omega (arith, m, n, lt))

-- ---- the keys of a table, each of which stands there once

abbrev pub has_key : List Entry → Rule → Bool
has_key es r = is_some (get_member r.key (members_view es))

or_there : (o : Ordering) (d : Data) (rest : Option Data) → is_some (match_ordering o rest (Some d) rest) ≡ (is_eq o || is_some rest)
or_there Less d rest = refl
or_there Equal d rest = refl
or_there Greater d rest = refl

absent : (k : String Global) (es : List Entry) → AllByRecursion (λ l. eq_by_cmp string_cmp k l ≡ false) (map (λ e. e.0) es) → is_some (get_member (string_bytes k) (members_view es)) ≡ false
absent k [] apart = refl
absent k (e ∷ es) apart =
    or_there (slice_cmp nat_cmp (string_bytes k) (string_bytes e.0)) (view e.1) (get_member (string_bytes k) (members_view es))
    ∙ ap (λ b. b || is_some (get_member (string_bytes k) (members_view es))) apart.0
    ∙ absent k es apart.1

-- as many keys have to be there as rules ask for a key that is there
pub required_among : (rs : List Rule) (es : List Entry) → has_own_keys rs ≡ true → IsDistinct (eq_by_cmp string_cmp) (map (λ e. e.0) es)
    → count_by (is_required rs) (map seen_entry es) ≡ count_by (asked (has_key es)) rs
unfolding IsDistinct
required_among rs [] own apart = sym (never_asked rs)
required_among rs (e ∷ es) own apart =
    count-cons (is_required rs) (seen_entry e) (map seen_entry es)
    ∙ ap (λ n. cond (needs rs (string_bytes e.0)) 1 0 + n) (required_among rs es own apart.1)
    ∙ sym (asked_one (has_key es) (string_bytes e.0) rs own (λ r same. ap (λ k. is_some (get_member k (members_view es))) (same_text r.key (string_bytes e.0) same) ∙ absent e.0 es apart.0))
    ∙ ap (λ p. count_by (asked p) rs) (λ i r. found r i)
  where
    found : (r : Rule) → (bytes_eq r.key (string_bytes e.0) || has_key es r) ≡ has_key (e ∷ es) r
    found r =
        ap (λ b. b || has_key es r) (sym (is_eq-slice_cmp r.key (string_bytes e.0)))
        ∙ sym (or_there (slice_cmp nat_cmp r.key (string_bytes e.0)) (view e.1) (get_member r.key (members_view es)))
