-- Lists of values beside the lists that are seen of them.
use Rattle.std.proofs.Common.{◌≡◌, ℕ, zero, suc, ◌+◌, List, [], ◌∷◌, length, map, take, Option, Some, None, is_some, option_map, refl, ap, sym, ◌∙◌}
use Rattle.std.specs.List.{sum_by}
use Rattle.std.proofs.lemmas.List.{length-map}
use Rattle.std.proofs.lemmas.List.Sums.{sum_by-cons}
use Rattle.plan_table.proofs.lemmas.Lists.{map_of_map}
use Rattle.plan_document.specs.declared.values.Value.{Value}
use Rattle.toml.specs.Data.{Data}
use Rattle.plan_document.specs.View.{view}

pub length_of_seen : {X Y : Type 0} (f : X → Y) (xs : List X) (ys : List Y) → map f xs ≡ ys → length xs ≡ length ys
length_of_seen f xs ys e = sym (length-map xs f) ∙ ap length e

pub is_some_of_seen : {X Y : Type 0} (f : X → Y) (o : Option X) (p : Option Y) → option_map f o ≡ p → is_some o ≡ is_some p
is_some_of_seen f None p e = ap is_some e
is_some_of_seen f (Some x) p e = ap is_some e

pub map_of_elements : {Z : Type 0} (f : Data → Z) (vs : List Value) (ds : List Data) → map view vs ≡ ds → map f ds ≡ map (λ v. f (view v)) vs
map_of_elements f vs ds e = rw (← e) (map_of_map f view vs)

sum_by_of_map : {X Y : Type 0} (f : Y → ℕ) (h : X → Y) (xs : List X) → sum_by f (map h xs) ≡ sum_by (λ x. f (h x)) xs
sum_by_of_map f h [] = refl
sum_by_of_map f h (x ∷ xs) = sum_by-cons f (h x) (map h xs) ∙ ap (λ n. f (h x) + n) (sum_by_of_map f h xs) ∙ sym (sum_by-cons (λ y. f (h y)) x xs)

pub sum_by_of_elements : (f : Data → ℕ) (vs : List Value) (ds : List Data) → map view vs ≡ ds → sum_by f ds ≡ sum_by (λ v. f (view v)) vs
sum_by_of_elements f vs ds e = rw (← e) (sum_by_of_map f view vs)

pub take_of_map : {X Y : Type 0} (f : X → Y) (n : ℕ) (xs : List X) → take n (map f xs) ≡ map f (take n xs)
take_of_map f zero xs = refl
take_of_map f (suc n) [] = refl
take_of_map f (suc n) (x ∷ xs) = ap (λ ys. f x ∷ ys) (take_of_map f n xs)
