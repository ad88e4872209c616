-- A document whose tables give no refusal is formed.
use Rattle.std.proofs.Common.{◌≡◌, ◌≢◌, ◌==◌, ℕ, ◌<◌, Bool, true, false, not, codes, is_none, List, length, get_or, [], Option, Some, None, option_and_then, ap, sym, ◌∙◌, arith, inl, inr}
use Rattle.std.specs.List.{All, list_any}
use Rattle.std.specs.Option.{option_map_or}
use Rattle.std.proofs.lemmas.Bool.{true≢false, cases_Bool, or_parts, not-false, eqb-false}
use Rattle.std.proofs.lemmas.List.Folds.{list_any_at}
use Rattle.std.proofs.lemmas.Option.{slice_get-get_or}
use Rattle.toml.specs.Data.{Data, get, as_str}
use Rattle.plan_table.specs.declared.refusals.Part.{Part}
use Rattle.plan_table.specs.declared.refusals.Part.TheVariants.{Project, Task}
use Rattle.plan_table.specs.declared.rules.TableKind.TheVariants as kind
use Rattle.plan_table.specs.declared.tables.TableTest.{TableTest}
use Rattle.plan_table.specs.declared.tables.TableTest.TheVariants.{Missing, BadName}
use Rattle.item_actions.specs.Forms.{is_file_name}
use Rattle.plan_table.specs.Forms.{Text, is_name}
use Rattle.plan_table.specs.Values.{text_of, text_or_empty}
use Rattle.plan_table.specs.Keys.{projects_of, tasks_of, name_of, actions_of, items_of, file_of, fetch_of}
use Rattle.plan_table.specs.Tables.{holds}
use Rattle.plan_table.specs.Search.{in_action, holds_at, place_at, places, table_refusal}
use Rattle.plan_table.specs.Formed.{IsFetch, IsFormedAction, IsFormed}
use Rattle.plan_table.proofs.lemmas.FirstLaws.{no_test}

-- of each element the test fails
none_passes : {X : Type 0} (test : X → Bool) (xs : List X) → list_any test xs ≡ false → All (λ x. test x ≡ false) xs
none_passes test xs none k d within =
    elim (cases_Bool (test (get_or xs k d))) [
      | inl passes ↦ absurd (true≢false (sym (list_any_at test xs k d within passes) ∙ none))
      | inr fails ↦ fails
    ]

quiet : (d : Data) → table_refusal d ≡ None → (t : TableTest) (p : Part) → All (λ x. holds_at t p x ≡ false) (places d p)
quiet d none t p k x within =
    elim (cases_Bool (holds_at t p (get_or (places d p) k x))) [
      | inl passes ↦ absurd (no_test d none t (place_at p k) (ap (λ o. option_map_or (holds_at t p) o false) (slice_get-get_or (places d p) k x within) ∙ passes))
      | inr fails ↦ fails
    ]

-- ---- texts

-- a text that is required and not out of form
formed : (is_form : Text → Bool) (o : Option Data) → is_none o ≡ false → option_map_or (λ v. not (is_form (text_of v))) o false ≡ false → is_form (text_or_empty o) ≡ true
formed is_form None there form = absurd (true≢false there)
formed is_form (Some v) there form = not-false _ form

fetched : (o : Option Data) → option_map_or (λ v. not (is_file_name (text_of v))) o false ≡ false → IsFetch (option_and_then as_str o)
fetched None form = tt
fetched (Some v) form = by (as_str v) form
  where
    by : (s : Option Text) → not (is_file_name (option_map_or (λ t. t) s [])) ≡ false → IsFetch s
    by None f = tt
    by (Some t) f = not-false _ f

-- ---- tables

project_named : (p : Data) → holds_at Missing Project p ≡ false → holds_at BadName Project p ≡ false → is_name (name_of p) ≡ true
project_named p m b = formed is_name (get (codes "name") p) (or_parts _ _ (or_parts _ _ m).0).0 (or_parts _ _ b).0

task_itself : (t : TableTest) (d : Data) → holds_at t Task d ≡ false → holds t kind.Task d ≡ false
task_itself t d h = (or_parts (holds t kind.Task d) _ h).0

task_named : (d : Data) → holds_at Missing Task d ≡ false → holds_at BadName Task d ≡ false → is_name (name_of d) ≡ true
task_named d m b = formed is_name (get (codes "name") d) (or_parts _ _ (or_parts _ _ (task_itself Missing d m)).0).0 (or_parts _ _ (task_itself BadName d b)).0

in_actions : (t : TableTest) (d : Data) → holds_at t Task d ≡ false → All (λ a. in_action (holds t) a ≡ false) (actions_of d)
in_actions t d h = none_passes (in_action (holds t)) (actions_of d) (or_parts (holds t kind.Task d) _ h).1

in_items : (t : TableTest) (a : Data) → in_action (holds t) a ≡ false → All (λ i. holds t kind.Item i ≡ false) (items_of a)
in_items t a h = none_passes (holds t kind.Item) (items_of a) (or_parts (holds t kind.Action a) _ h).1

positive : (n : ℕ) → n ≢ 0 → 0 < n
positive n some = omega (arith, some)

some_items : (a : Data) → in_action (holds Missing) a ≡ false → 0 < length (items_of a)
some_items a m =
    let none : (length (items_of a) == 0) ≡ false = (or_parts _ _ (or_parts (holds Missing kind.Action a) _ m).0).1 in
    let some : length (items_of a) ≢ 0 = eqb-false (length (items_of a)) 0 none in
    positive (length (items_of a)) some

fetch_named : (a : Data) → in_action (holds BadName) a ≡ false → IsFetch (fetch_of a)
fetch_named a b = fetched (get (codes "fetch") a) (or_parts _ _ (or_parts _ _ (or_parts (holds BadName kind.Action a) _ b).0).1).0

item_named : (i : Data) → holds Missing kind.Item i ≡ false → holds BadName kind.Item i ≡ false → is_file_name (file_of i) ≡ true
item_named i m b = formed is_file_name (get (codes "file") i) (or_parts _ _ (or_parts _ _ (or_parts _ _ m).0).1).0 (or_parts _ _ (or_parts _ _ b).1).0

action_formed : (a : Data) → in_action (holds Missing) a ≡ false → in_action (holds BadName) a ≡ false → IsFormedAction a
action_formed a m b = record {
  some_item = some_items a m;
  fetch = fetch_named a b;
  files = λ k d within. item_named (get_or (items_of a) k d) (in_items Missing a m k d within) (in_items BadName a b k d within);
}

pub is_formed : (d : Data) → table_refusal d ≡ None → IsFormed d
is_formed d none =
    let lacking = quiet d none Missing in
    let misformed = quiet d none BadName in
    record {
      projects = λ k p within. project_named (get_or (projects_of d) k p) (lacking Project k p within) (misformed Project k p within);
      tasks = λ k t within. task_named (get_or (tasks_of d) k t) (lacking Task k t within) (misformed Task k t within);
      actions = λ k t within j a short. action_formed (get_or (actions_of (get_or (tasks_of d) k t)) j a)
          (in_actions Missing (get_or (tasks_of d) k t) (lacking Task k t within) j a short) (in_actions BadName (get_or (tasks_of d) k t) (misformed Task k t within) j a short);
    }
