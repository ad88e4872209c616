-- One look at each table finds nothing exactly where no test of the tables holds.
use Rattle.std.proofs.Common.{◌≡◌, Bool, true, false, not, ◌||◌, is_some, is_none, List, [], ◌∷◌, Option, Some, None, option_map, refl, ap, sym, ◌∙◌}
use Rattle.std.specs.List.{list_any, position}
use Rattle.std.specs.Option.{option_or}
use Rattle.std.proofs.lemmas.Bool.{true≢false}
use Rattle.toml.specs.Data.{Data}
use Rattle.plan_table.specs.declared.refusals.Part.{Part}
use Rattle.plan_table.specs.declared.refusals.Part.TheVariants.{Plan, Project, Task, Requirements}
use Rattle.plan_table.specs.declared.rules.TableKind.TheVariants as kind
use Rattle.plan_table.specs.Keys.{actions_of, items_of}
use Rattle.plan_table.specs.Tables.{holds, tests}
use Rattle.plan_table.specs.Look.{any_holds}
use Rattle.plan_table.proofs.lemmas.Positions.{position_any}
use Rattle.plan_table.specs.Search.{first_of, places, parts, place_at, first_in, first_place, in_action, in_part, holds_at, refusal_of, table_refusal}

-- ---- a test of a list

swapped : (a b c d : Bool) → ((a || b) || (c || d)) ≡ ((a || c) || (b || d))
swapped true b c d = refl
swapped false true true d = refl
swapped false true false d = refl
swapped false false c d = refl

-- one of two tests
pub any_or : {X : Type 0} (p q : X → Bool) (xs : List X) → list_any (λ x. p x || q x) xs ≡ (list_any p xs || list_any q xs)
any_or p q [] = refl
any_or p q (x ∷ xs) = ap (λ b. (p x || q x) || b) (any_or p q xs) ∙ swapped (p x) (q x) (list_any p xs) (list_any q xs)

pub never : {X : Type 0} (xs : List X) → list_any (λ x. false) xs ≡ false
never [] = refl
never (x ∷ xs) = never xs

-- one of several tests
any_swap : {T X : Type 0} (f : T → X → Bool) (ts : List T) (xs : List X) → list_any (λ t. list_any (f t) xs) ts ≡ list_any (λ x. list_any (λ t. f t x) ts) xs
any_swap f ts [] = never ts
any_swap f ts (x ∷ xs) = any_or (λ t. f t x) (λ t. list_any (f t) xs) ts ∙ ap (λ b. list_any (λ t. f t x) ts || b) (any_swap f ts xs)

same_test : {X : Type 0} (p q : X → Bool) (xs : List X) → ((x : X) → p x ≡ q x) → list_any p xs ≡ list_any q xs
same_test p q xs same = ap (λ f. list_any f xs) (λ i x. same x i)

-- ---- any of the tests, at a part

in_action_any : (a : Data) → list_any (λ t. in_action (holds t) a) tests ≡ in_action any_holds a
in_action_any a =
    any_or (λ t. holds t kind.Action a) (λ t. list_any (holds t kind.Item) (items_of a)) tests
    ∙ ap (λ b. any_holds kind.Action a || b) (any_swap (λ t. holds t kind.Item) tests (items_of a))

in_actions_any : (as' : List Data) → list_any (λ t. list_any (in_action (holds t)) as') tests ≡ list_any (in_action any_holds) as'
in_actions_any as' = any_swap (λ t. in_action (holds t)) tests as' ∙ same_test _ _ as' in_action_any

in_part_any : (p : Part) (d : Data) → list_any (λ t. holds_at t p d) tests ≡ in_part any_holds p d
in_part_any Plan d = refl
in_part_any Project d = refl
in_part_any Requirements d = refl
in_part_any Task d =
    any_or (λ t. holds t kind.Task d) (λ t. list_any (in_action (holds t)) (actions_of d)) tests
    ∙ ap (λ b. any_holds kind.Task d || b) (in_actions_any (actions_of d))

-- ---- something is found where a test passes

some_of_or : {Y : Type 0} (a b : Option Y) → is_some (option_or a b) ≡ (is_some a || is_some b)
some_of_or None b = refl
some_of_or (Some y) b = refl

some_of_map : {X Y : Type 0} (f : X → Y) (o : Option X) → is_some (option_map f o) ≡ is_some o
some_of_map f None = refl
some_of_map f (Some x) = refl

some_first : {X Y : Type 0} (f : X → Option Y) (xs : List X) → is_some (first_of f xs) ≡ list_any (λ x. is_some (f x)) xs
some_first f [] = refl
some_first f (x ∷ xs) = some_of_or (f x) (first_of f xs) ∙ ap (λ b. is_some (f x) || b) (some_first f xs)

some_place : (test : Part → Data → Bool) (d : Data) → is_some (first_place test d) ≡ list_any (λ p. list_any (test p) (places d p)) parts
some_place test d =
    some_first (first_in test d) parts
    ∙ same_test _ _ parts (λ p. some_of_map (place_at p) (position (test p) (places d p)) ∙ position_any (test p) (places d p))

none_from : {Y : Type 0} (o : Option Y) → is_some o ≡ false → o ≡ None
none_from None e = refl
none_from (Some y) e = absurd (true≢false e)

pub no_first_place : (test : Part → Data → Bool) (d : Data) → list_any (λ p. list_any (test p) (places d p)) parts ≡ false → first_place test d ≡ None
no_first_place test d none = none_from (first_place test d) (some_place test d ∙ none)

some_refusal : (d : Data) → is_some (table_refusal d) ≡ is_some (first_place (in_part any_holds) d)
some_refusal d =
    some_first (λ t. option_map (refusal_of t) (first_place (holds_at t) d)) tests
    ∙ same_test _ _ tests (λ t. some_of_map (refusal_of t) (first_place (holds_at t) d) ∙ some_place (holds_at t) d)
    ∙ any_swap (λ t p. list_any (holds_at t p) (places d p)) tests parts
    ∙ same_test _ _ parts (λ p. any_swap (λ t. holds_at t p) tests (places d p) ∙ same_test _ _ (places d p) (in_part_any p))
    ∙ sym (some_place (in_part any_holds) d)

pub none_as_some : {Y : Type 0} (o : Option Y) → is_none o ≡ not (is_some o)
none_as_some None = refl
none_as_some (Some y) = refl

pub nothing_refused : (d : Data) → is_none (first_place (in_part any_holds) d) ≡ is_none (table_refusal d)
nothing_refused d = none_as_some (first_place (in_part any_holds) d) ∙ ap not (sym (some_refusal d)) ∙ sym (none_as_some (table_refusal d))
