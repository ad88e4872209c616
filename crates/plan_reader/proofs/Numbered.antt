-- Names that are numbered in their order, over plain lists.
use Rattle.std.proofs.Common.{◌≡◌, ◌==◌, ℕ, ◌+◌, ◌<◌, true, false, cond, is_some, Option, Some, None, List, [], ◌∷◌, ◌++◌, map, length, take, get_or, Bor, Vec, Global, refl, ap, sym, subst, ◌∙◌, inl, inr, position, bytes_eq, arith}
use Rattle.std.proofs.lemmas.Bool.{cases_Bool, true≢false}
use Rattle.std.proofs.lemmas.List.{length-map, length-append, get_or-map, map_more, take_more, take_all, length-take}
use Rattle.std.proofs.Math.Seq.{get_or-append_seam}
use Rattle.std.proofs.lemmas.List.Sums.{fold_push}
use Rattle.std.proofs.lemmas.Map.Text.{btree_map_updates_str}
use Rattle.std.proofs.lemmas.Slice.Eq.{bytes_eq-Decides}
use Rattle.std.specs.BTreeMap.{BTreeMap, UpdatesBy, get_by, is_at}
use Rattle.std.specs.Map.{lookup}
use Rattle.std.specs.Cmp.Lexicographic.{slice_cmp}
use Rattle.std.specs.Option.{option_or}
use Rattle.std.specs.Ordering.{nat_cmp}
use Rattle.indexmap.specs.IndexSet.{insert_key}
use Rattle.ready_work.specs.Rank.{lists_of}
use Rattle.plan_table.specs.Forms.{Text}
use Rattle.plan_reader.specs.NameNumbers.{is_repeat, AreNumbered}
use Rattle.plan_reader.specs.Names.{once}
use Rattle.plan_table.proofs.lemmas.Positions.{position_any, position_push}

abbrev pub Numbers : Type 0
Numbers = BTreeMap (Bor (List ℕ)) ℕ

-- what a text looks up
abbrev pub number_in : Numbers → Text → Option ℕ
number_in m t = get_by (λ k. slice_cmp nat_cmp t k.now) m

-- the names before a place have the name there exactly where it is known
pub known-is_repeat : (names : List Text) (i : ℕ) (m : Numbers) → AreNumbered (take i names) m → is_some (number_in m (get_or names i [])) ≡ is_repeat names i
known-is_repeat names i m are = ap is_some (are (get_or names i [])) ∙ position_any (bytes_eq (get_or names i [])) (take i names)

-- no name
pub empty_numbered : (names : List Text) (m : Numbers) → m.entries ≡ [] → AreNumbered (take 0 names) m
empty_numbered names m empty t = ap (λ es. lookup (is_at (λ k. slice_cmp nat_cmp t k.now)) es) empty

-- one more name
pub numbered_next : (names : List Text) (i : ℕ) (m n : Numbers) (name : Text) → i < length names → name ≡ get_or names i [] → AreNumbered (take i names) m → number_in m name ≡ None
    → UpdatesBy (λ x y. slice_cmp nat_cmp x.now y.now) (λ k. slice_cmp nat_cmp name k.now) m n (Some i) → AreNumbered (take (i + 1) names) n
numbered_next names i m n name within is are fresh updates t =
    let old : number_in m t ≡ position (bytes_eq t) (take i names) = are t in
    let none : position (bytes_eq name) (take i names) ≡ None = sym (are name) ∙ fresh in
    let long : length (take i names) ≡ i = length-take i names ∙ omega (arith, within) in
    let front : take (i + 1) names ≡ take i names ++ name ∷ [] = take_more names i [] within ∙ ap (λ x. take i names ++ x ∷ []) (sym is) in
    let pushed : position (bytes_eq t) (take (i + 1) names) ≡ option_or (position (bytes_eq t) (take i names)) (cond (bytes_eq t name) (Some (length (take i names))) None) = ap (position (bytes_eq t)) front ∙ position_push (bytes_eq t) (take i names) name in
    let now : number_in n t ≡ cond (bytes_eq name t) (Some i) (number_in m t) = btree_map_updates_str name m n (Some i) updates t in
    elim (cases_Bool (bytes_eq name t)) [
      | inl same ↦
          let e : name ≡ t = (bytes_eq-Decides name t).0 same in
          let back : bytes_eq t name ≡ true = (bytes_eq-Decides t name).1 (sym e) in
          let absent : position (bytes_eq t) (take i names) ≡ None = subst (λ (x : Text). position (bytes_eq x) (take i names) ≡ None) e none in
          let here : number_in n t ≡ Some i = rw same at now in
          let there : position (bytes_eq t) (take (i + 1) names) ≡ Some i = rw (absent, back, long) at pushed in
          here ∙ sym there
      | inr other ↦
          let back : bytes_eq t name ≡ false = other_way name t other in
          let here : number_in n t ≡ number_in m t = rw other at now in
          let there : position (bytes_eq t) (take (i + 1) names) ≡ option_or (position (bytes_eq t) (take i names)) None = rw back at pushed in
          here ∙ old ∙ sym (there ∙ or_none (position (bytes_eq t) (take i names)))
    ]
  where
    or_none : (o : Option ℕ) → option_or o None ≡ o
    or_none (Some k) = refl
    or_none None = refl

    other_way : (a b : Text) → bytes_eq a b ≡ false → bytes_eq b a ≡ false
    other_way a b no_ = elim (cases_Bool (bytes_eq b a)) [
      | inl is_ ↦ absurd (true≢false (sym ((bytes_eq-Decides a b).1 (sym ((bytes_eq-Decides b a).0 is_))) ∙ no_))
      | inr is_ ↦ is_
    ]

-- ---- numbers

pub once_more : {X : Type 0} (number : X → ℕ) (xs : List X) (i : ℕ) (x : X) (n : ℕ) (old new : List ℕ) → i < length xs → x ≡ get_or xs i x → n ≡ number x
    → old ≡ once (map number (take i xs)) → new ≡ insert_key (λ a b. a == b) old n → new ≡ once (map number (take (i + 1) xs))
once_more number xs i x n old new within is same so_far made =
    let insert : List ℕ → ℕ → List ℕ = insert_key (λ a b. a == b) in
    made ∙ ap (λ ks. insert ks n) so_far ∙ ap (insert (once (map number (take i xs)))) (same ∙ ap number is)
    ∙ sym (fold_push insert [] (map number (take i xs)) (number (get_or xs i x)))
    ∙ ap once (sym (map_more number xs i x within))

-- ---- rows

-- the row at a number, where the rows are those of the values
row_at : {X : Type 0} (row : X → List ℕ) (rows : List (Vec ℕ Global)) (xs : List X) (i : ℕ) (r : Vec ℕ Global) (x : X) → lists_of rows ≡ map row xs → i < length xs
    → r ≡ get_or rows i r → x ≡ get_or xs i x → r.items ≡ row x
row_at row rows xs i r x are within at is =
    let long : i < length rows = omega (arith, within, sym (length-map rows (λ v. v.items)) ∙ ap length are ∙ length-map xs row) in
    ap (λ v. v.items) at
    ∙ sym (get_or-map (λ v. v.items) rows i r [] long)
    ∙ ap (λ ls. get_or ls i []) are
    ∙ get_or-map row xs i x [] within
    ∙ ap row (sym is)

-- as many rows as values
as_many : {X : Type 0} (row : X → List ℕ) (rows : List (Vec ℕ Global)) (xs : List X) → lists_of rows ≡ map row xs → length rows ≡ length xs
as_many row rows xs are = sym (length-map rows (λ v. v.items)) ∙ ap length are ∙ length-map xs row

-- the row that is next, behind those that are done
pub next_within : {X : Type 0} (row : X → List ℕ) (rows done rest : List (Vec ℕ Global)) (r : Vec ℕ Global) (xs : List X) → lists_of rows ≡ map row xs → rows ≡ done ++ r ∷ rest → length done < length xs
next_within row rows done rest r xs are next = omega (arith, as_many row rows xs are, ap length next ∙ length-append done (r ∷ rest))

pub next_row : {X : Type 0} (row : X → List ℕ) (rows done rest : List (Vec ℕ Global)) (r : Vec ℕ Global) (xs : List X) (x : X) → lists_of rows ≡ map row xs → rows ≡ done ++ r ∷ rest
    → x ≡ get_or xs (length done) x → r.items ≡ row x
next_row row rows done rest r xs x are next is =
    row_at row rows xs (length done) r x are (next_within row rows done rest r xs are next) (sym (ap (λ rs. get_or rs (length done) r) next ∙ get_or-append_seam done r rest r)) is

-- all rows are done
pub all_done : {X : Type 0} (row : X → List ℕ) (rows done : List (Vec ℕ Global)) (xs : List X) → lists_of rows ≡ map row xs → rows ≡ done → take (length done) xs ≡ xs
all_done row rows done xs are all = take_all (length done) xs (omega (arith, as_many row rows xs are, ap length all))
