-- What a row of entries gives under a key, before and after another value is put under one.
use Rattle.std.proofs.Common.{◌≡◌, ℕ, zero, suc, ◌<◌, Bool, false, cond, List, [], ◌∷◌, length, get_or, set, position, Option, Some, None, option_map, inl, inr, refl, ap, sym, ◌∙◌, arith, string_bytes, Ordering, Less, Equal, Greater, nat_cmp, is_eq}
use Rattle.std.specs.Cmp.Lexicographic.{slice_cmp}
use Rattle.std.specs.Ordering.{match_ordering}
use Rattle.std.specs.Str.{bytes_eq}
use Rattle.std.proofs.lemmas.Bool.{cases_Bool}
use Rattle.std.proofs.lemmas.Map.Text.{is_eq-slice_cmp}
use Rattle.std.proofs.lemmas.Option.{none-some, same_Some}
use Rattle.toml.specs.Data.{get_member}
use Rattle.plan_document.specs.declared.values.Value.{Value}
use Rattle.plan_document.specs.View.{view, members_view}
use Rattle.plan_document.proofs.Positions.{position_cons}
use Rattle.plan_document.proofs.Views.{Entry}

abbrev pub is_under : List ℕ → Entry → Bool
is_under key e = bytes_eq key (string_bytes e.0)

next : (key : List ℕ) (e : Entry) (es : List Entry) → get_member key (members_view (e ∷ es)) ≡ cond (is_under key e) (Some (view e.1)) (get_member key (members_view es))
next key e es =
    by (slice_cmp nat_cmp key (string_bytes e.0))
    ∙ ap (λ b. cond b (Some (view e.1)) (get_member key (members_view es))) (is_eq-slice_cmp key (string_bytes e.0))
  where
    by : (o : Ordering) → match_ordering o (get_member key (members_view es)) (Some (view e.1)) (get_member key (members_view es)) ≡ cond (is_eq o) (Some (view e.1)) (get_member key (members_view es))
    by Less = refl
    by Equal = refl
    by Greater = refl

one_before : (o : Option ℕ) (i : ℕ) → option_map suc o ≡ Some i → (j : ℕ) × (o ≡ Some j) × (suc j ≡ i)
one_before (Some j) i is = (j, refl, same_Some (suc j) i is)
one_before None i is = absurd (none-some i is)

none_before : (o : Option ℕ) → option_map suc o ≡ None → o ≡ None
none_before (Some j) is = absurd (none-some (suc j) (sym is))
none_before None is = refl

-- the value at the first place of the key
pub member_at : (key : List ℕ) (es : List Entry) (i : ℕ) (d : Entry) → position (is_under key) es ≡ Some i → get_member key (members_view es) ≡ Some (view (get_or es i d).1)
member_at key [] i d at = absurd (none-some i at)
member_at key (e ∷ es) i d at =
    let place = sym (position_cons (is_under key) e es) ∙ at in
    elim (cases_Bool (is_under key e)) [
      | inl here ↦
          let first = same_Some 0 i (rw here at place) in
          next key e es ∙ rw here (ap (λ n. Some (view (get_or (e ∷ es) n d).1)) first)
      | inr further ↦
          let (j, is, up) = one_before (position (is_under key) es) i (rw further at place) in
          next key e es ∙ rw further (member_at key es j d is ∙ ap (λ n. Some (view (get_or (e ∷ es) n d).1)) up)
    ]

pub no_member : (key : List ℕ) (es : List Entry) → position (is_under key) es ≡ None → get_member key (members_view es) ≡ None
no_member key [] none = refl
no_member key (e ∷ es) none =
    let place = sym (position_cons (is_under key) e es) ∙ none in
    elim (cases_Bool (is_under key e)) [
      | inl here ↦ absurd (none-some 0 (sym (rw here at place)))
      | inr further ↦ next key e es ∙ rw further (no_member key es (none_before (position (is_under key) es) (rw further at place)))
    ]

-- what stands under another key, where a value is put under this one
pub member_stays : (other : List ℕ) (es : List Entry) (i : ℕ) (e : Entry) (w : Value) → i < length es → e ≡ get_or es i e → is_under other e ≡ false
    → get_member other (members_view (set es i (e.0, w))) ≡ get_member other (members_view es)
member_stays other [] i e w within at differs = absurd (omega (arith, within))
member_stays other (x ∷ es) zero e w within at differs =
    next other (e.0, w) es
    ∙ ap (λ b. cond b (Some (view w)) (get_member other (members_view es))) differs
    ∙ sym (next other x es ∙ ap (λ b. cond b (Some (view x.1)) (get_member other (members_view es))) (ap (is_under other) (sym at) ∙ differs))
member_stays other (x ∷ es) (suc i) e w within at differs =
    next other x (set es i (e.0, w))
    ∙ ap (λ o. cond (is_under other x) (Some (view x.1)) o) (member_stays other es i e w (omega (arith, within)) at differs)
    ∙ sym (next other x es)
