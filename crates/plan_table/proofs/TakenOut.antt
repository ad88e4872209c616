-- What a table's row gives under each key, before and after another value is put under one.
use Rattle.std.proofs.Common.{◌≡◌, ℕ, false, List, get_or, set, position, Some, None, ap, sym, ◌∙◌, Vec, Global, string_bytes}
use Rattle.std.specs.Str.{bytes_eq}
use Rattle.std.proofs.lemmas.Cmp.{nat_list_eq_equiv}
use Rattle.std.proofs.lemmas.List.Quantifiers.{position-Some}
use Rattle.toml.specs.Data.{get}
use Rattle.plan_document.specs.declared.values.Value.{Value, Table}
use Rattle.plan_document.specs.View.{view}
use Rattle.plan_document.proofs.Found.{is_under, member_at, member_stays, no_member}
use Rattle.plan_document.proofs.Views.{Entry, view-Table}
use Rattle.plan_table.specs.Taking.{KeepsOthers}
use Rattle.plan_table.proofs.Counting.{same_text}

-- the value of the entry at the place of the key
pub found : (key : List ℕ) (m : Vec Entry Global) (i : ℕ) (e : Entry) → position (is_under key) m.items ≡ Some i → e ≡ get_or m.items i e → Some (view e.1) ≡ get key (view (Table m))
found key m i e at is = rw (view-Table m) (ap (λ x. Some (view x.1)) is ∙ sym (member_at key m.items i e at))

pub none_found : (key : List ℕ) (m : Vec Entry Global) → position (is_under key) m.items ≡ None → None ≡ get key (view (Table m))
none_found key m none = rw (view-Table m) (sym (no_member key m.items none))

-- what stands under the other keys
pub others_stay : (key : List ℕ) (m n : Vec Entry Global) (i : ℕ) (e : Entry) (w : Value) → position (is_under key) m.items ≡ Some i → e ≡ get_or m.items i e → n.items ≡ set m.items i (e.0, w)
    → KeepsOthers key (view (Table m)) (view (Table n))
others_stay key m n i e w at is changed other differs =
    let (within, under, before) = position-Some (is_under key) m.items i e at in
    let same : key ≡ string_bytes e.0 = same_text key (string_bytes e.0) (ap (is_under key) is ∙ under) in
    let apart : is_under other e ≡ false = ap (bytes_eq other) (sym same) ∙ nat_list_eq_equiv.symm other key ∙ differs in
    rw (view-Table m, view-Table n, changed) (member_stays other m.items i e w within is apart)
