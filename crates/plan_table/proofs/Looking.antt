-- The entries of a table, looked at one by one.
use Rattle.std.proofs.Common.{◌≡◌, ℕ, ◌+◌, Bool, true, false, cond, ◌&&◌, if◌then◌else◌, List, [], ◌∷◌, map, Option, Some, None, option_map, refl, ap, sym, ◌∙◌, arith, string_bytes}
use Rattle.std.specs.Prelude.{count_by}
use Rattle.std.specs.Int.{from_bool}
use Rattle.std.specs.List.{find, list_all}
use Rattle.std.specs.Option.{option_map_or}
use Rattle.std.specs.Str.{bytes_eq}
use Rattle.std.proofs.lemmas.List.Sums.{sum_by-cons}
use Rattle.plan_document.specs.View.{view}
use Rattle.plan_document.proofs.Views.{Entry}
use Rattle.plan_table.specs.declared.rules.KeyRule.{KeyRule}
use Rattle.plan_table.specs.Forms.{Text}
use Rattle.plan_table.specs.Look.{is_allowed, is_required, required_keys, rule_for}
use Rattle.plan_table.specs.Rules.{Rule, rule_of, fits}
use Rattle.plan_table.proofs.Counting.{seen_entry}
use Rattle.plan_table.proofs.lemmas.Lists.{find_of_map}

-- so much of the list is still to be looked at, and so many keys of what was looked at have to be there
abbrev pub Looks : List Rule → List Entry → ℕ → List Entry → Type 0
Looks rs all n left = (list_all (is_allowed rs) (map seen_entry all) ≡ list_all (is_allowed rs) (map seen_entry left))
    × (count_by (is_required rs) (map seen_entry all) ≡ n + count_by (is_required rs) (map seen_entry left))

number : (b : Bool) → from_bool b ≡ cond b 1 0
number true = refl
number false = refl

module _ (ks : List KeyRule) (all left more : List Entry) (e : Entry) (n : ℕ) (looks : Looks (map rule_of ks) all n left) (step : left ≡ e ∷ more) (key : Text) (at : key ≡ string_bytes e.0)
    (o : Option KeyRule) (is : o ≡ find (λ r. bytes_eq r.key.now key) ks) where
  abbrev rs : List Rule
  rs = map rule_of ks

  ruled : option_map rule_of o ≡ rule_for rs (string_bytes e.0)
  ruled = ap (option_map rule_of) is ∙ sym (find_of_map (λ r. bytes_eq r.key key) rule_of ks) ∙ ap (rule_for rs) at

  first : list_all (is_allowed rs) (map seen_entry all) ≡ (option_map_or (λ r. fits r.form (view e.1)) (option_map rule_of o) false && list_all (is_allowed rs) (map seen_entry more))
  first =
      looks.0
      ∙ ap (λ es. list_all (is_allowed rs) (map seen_entry es)) step
      ∙ ap (λ r. option_map_or (λ x. fits x.form (view e.1)) r false && list_all (is_allowed rs) (map seen_entry more)) (sym ruled)

  none_from : list_all (is_allowed rs) (map seen_entry all) ≡ false → None ≡ required_keys rs (map seen_entry all)
  none_from wrong = sym (ap (λ b. if b then Some (count_by (is_required rs) (map seen_entry all)) else None) wrong)

  -- the key has no rule
  pub without_rule : o ≡ None → None ≡ required_keys rs (map seen_entry all)
  without_rule none = none_from (first ∙ ap (λ r. option_map_or (λ x. fits x.form (view e.1)) (option_map rule_of r) false && list_all (is_allowed rs) (map seen_entry more)) none)

  module _ (r : KeyRule) (some : o ≡ Some r) where
    with_rule : list_all (is_allowed rs) (map seen_entry all) ≡ (fits r.form (view e.1) && list_all (is_allowed rs) (map seen_entry more))
    with_rule = first ∙ ap (λ x. option_map_or (λ y. fits y.form (view e.1)) (option_map rule_of x) false && list_all (is_allowed rs) (map seen_entry more)) some

    -- the value doesn't fit its rule
    pub unfit : fits r.form (view e.1) ≡ false → None ≡ required_keys rs (map seen_entry all)
    unfit wrong = none_from (with_rule ∙ ap (λ b. b && list_all (is_allowed rs) (map seen_entry more)) wrong)

    pub looked_at : (m : ℕ) → fits r.form (view e.1) ≡ true → m ≡ from_bool r.is_required → Looks rs all (n + m) more
    looked_at m right is_number =
        (with_rule ∙ ap (λ b. b && list_all (is_allowed rs) (map seen_entry more)) right, omega (arith, looks.1, one, is_number ∙ number r.is_required))
      where
        one : count_by (is_required rs) (map seen_entry left) ≡ cond r.is_required 1 0 + count_by (is_required rs) (map seen_entry more)
        one =
            ap (λ es. count_by (is_required rs) (map seen_entry es)) step
            ∙ sum_by-cons (λ x. cond (is_required rs x) 1 0) (seen_entry e) (map seen_entry more)
            ∙ ap (λ x. cond (option_map_or (λ y. y.required) x false) 1 0 + count_by (is_required rs) (map seen_entry more)) (sym ruled ∙ ap (option_map rule_of) some)

-- nothing is left to be looked at
pub all_looked : (rs : List Rule) (all left : List Entry) (n : ℕ) → Looks rs all n left → left ≡ [] → Some n ≡ required_keys rs (map seen_entry all)
all_looked rs all left n looks none =
    let allowed : list_all (is_allowed rs) (map seen_entry all) ≡ true = looks.0 ∙ ap (λ es. list_all (is_allowed rs) (map seen_entry es)) none in
    let nothing : count_by (is_required rs) (map seen_entry left) ≡ 0 = ap (λ es. count_by (is_required rs) (map seen_entry es)) none in
    let many : n ≡ count_by (is_required rs) (map seen_entry all) = omega (arith, looks.1, nothing) in
    ap Some many ∙ sym (ap (λ b. if b then Some (count_by (is_required rs) (map seen_entry all)) else None) allowed)
