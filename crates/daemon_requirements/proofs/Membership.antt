-- Which values are among others.
use Rattle.std.proofs.Common.{◌≡◌, Bool, List, get_or, Decides, sym}
use Rattle.std.specs.List.{All, Contains, list_any, list_all}
use Rattle.std.specs.Str.{bytes_eq}
use Rattle.std.proofs.lemmas.Bool.{and_parts, and_from}
use Rattle.std.proofs.lemmas.List.Folds.{list_any_at}
use Rattle.std.proofs.lemmas.List.Sums.{AllPass-from_list_all, list_all-from_AllPass}
use Rattle.std.proofs.lemmas.Map.Views.{Contains-from_any}
use Rattle.std.proofs.lemmas.Slice.Eq.{bytes_eq-Decides}
use Rattle.daemon_requirements.specs.declared.fields.Pair.{Pair}
use Rattle.daemon_requirements.specs.Rules.{is_same_pair}

-- a test of each value finds those that are among the others
pub among_Decides : {X : Type 0} {eq : X → X → Bool} → ((x y : X) → Decides (eq x y) (x ≡ y)) → (xs : List X) (x : X) → Decides (list_any (eq x) xs) (Contains xs x)
among_Decides {eq = eq} decides xs x = (
  Contains-from_any (λ a b. (decides a b).0) x xs,
  λ found. list_any_at (eq x) xs found.0 x found.1 ((decides x _).1 (sym found.2)),
)

pub all_among_Decides : {X : Type 0} {eq : X → X → Bool} → ((x y : X) → Decides (eq x y) (x ≡ y)) → (xs wanted : List X) → Decides (list_all (λ w. list_any (eq w) xs) wanted) (All (Contains xs) wanted)
all_among_Decides {eq = eq} decides xs wanted = (
  λ all k d within. (among_Decides decides xs (get_or wanted k d)).0 (AllPass-from_list_all (λ w. list_any (eq w) xs) wanted all k d within),
  λ all. list_all-from_AllPass (λ w. list_any (eq w) xs) wanted (λ k d within. (among_Decides decides xs (get_or wanted k d)).1 (all k d within)),
)

pub same_pair_Decides : (a b : Pair) → Decides (is_same_pair a b) (a ≡ b)
same_pair_Decides a b = (
  λ same.
      let parts = and_parts (bytes_eq a.name b.name) (bytes_eq a.value b.value) same in
      let names = (bytes_eq-Decides a.name b.name).0 parts.0 in
      let values = (bytes_eq-Decides a.value b.value).0 parts.1 in
      λ i. record { name = names i; value = values i },
  λ e. and_from (bytes_eq a.name b.name) (bytes_eq a.value b.value) ((bytes_eq-Decides _ _).1 (λ i. (e i).name)) ((bytes_eq-Decides _ _).1 (λ i. (e i).value)),
)
