-- The tests of one table of a plan.
use Rattle.std.specs.Prelude.{codes, Bool, false, not, ◌&&◌, ◌||◌, ◌==◌, List, [], ◌∷◌, length, is_some, is_none}
use Rattle.std.specs.List.{list_any}
use Rattle.std.specs.Option.{option_map_or}
use Rattle.std.specs.Str.{bytes_eq}
use Rattle.toml.specs.Data.{Data, get, as_table}
use Rattle.plan_table.specs.declared.rules.TableKind.{TableKind}
use Rattle.plan_table.specs.declared.rules.TableKind.TheVariants.{Action, Item}
use Rattle.plan_table.specs.declared.tables.TableTest.{TableTest}
use Rattle.plan_table.specs.declared.tables.TableTest.TheVariants.{UnknownKey, WrongType, Missing, BadName}
use Rattle.plan_table.specs.declared.tables.RuleTest.{RuleTest}
use Rattle.plan_table.specs.declared.tables.RuleTest.TheVariants.{Mistyped, Lacking, Misformed}
use Rattle.plan_table.specs.Forms.{Text}
use Rattle.plan_table.specs.Values.{is_table, keys_of}
use Rattle.plan_table.specs.Keys.{do_of, isolation_of, items_of}
use Rattle.plan_table.specs.Rules.{Rule, rules, has_type, has_form}

-- ---- a key that isn't known there

abbrev pub has_rule : List Rule → Text → Bool
has_rule rs key = list_any (λ r. bytes_eq r.key key) rs

-- a value that is no table has no keys
abbrev pub has_other_key : List Rule → Data → Bool
has_other_key rs d = option_map_or (λ ms. list_any (λ key. not (has_rule rs key)) (keys_of ms)) (as_table d) false

abbrev pub counts : Data → Bool
counts d = bytes_eq (do_of d) (codes "count")

abbrev pub asks_for_process : Data → Bool
asks_for_process d = bytes_eq (isolation_of d) (codes "process")

-- a needle where nothing is counted, or requirements where no process is asked for
abbrev pub has_idle_key : TableKind → Data → Bool
has_idle_key Item d = (is_some (get (codes "needle") d) && not (counts d)) || (is_some (get (codes "requirements") d) && not (asks_for_process d))
has_idle_key _ d = false

abbrev pub unknown_key : TableKind → Data → Bool
unknown_key kind d = has_other_key (rules kind) d || has_idle_key kind d

-- ---- a value of another type

abbrev pub is_mistyped : Data → Rule → Bool
is_mistyped d r = option_map_or (λ value. not (has_type r.form value)) (get r.key d) false

abbrev pub wrong_type : TableKind → Data → Bool
wrong_type kind d = not (is_table d) || list_any (is_mistyped d) (rules kind)

-- ---- a key that isn't there

abbrev pub is_lacking : Data → Rule → Bool
is_lacking d r = r.required && is_none (get r.key d)

-- an action without items, or an item that counts and has no needle
abbrev pub lacks_more : TableKind → Data → Bool
lacks_more Action d = length (items_of d) == 0
lacks_more Item d = counts d && is_none (get (codes "needle") d)
lacks_more _ d = false

abbrev pub missing : TableKind → Data → Bool
missing kind d = list_any (is_lacking d) (rules kind) || lacks_more kind d

-- ---- a text outside its form

abbrev pub is_misformed : Data → Rule → Bool
is_misformed d r = option_map_or (λ value. not (has_form r.form value)) (get r.key d) false

abbrev pub bad_name : TableKind → Data → Bool
bad_name kind d = list_any (is_misformed d) (rules kind)

-- ---- the tests of a rule

abbrev pub fails : RuleTest → Data → Rule → Bool
fails Mistyped = is_mistyped
fails Lacking = is_lacking
fails Misformed = is_misformed

-- ---- the four

abbrev pub holds : TableTest → TableKind → Data → Bool
holds UnknownKey = unknown_key
holds WrongType = wrong_type
holds Missing = missing
holds BadName = bad_name

abbrev pub tests : List TableTest
tests = UnknownKey ∷ WrongType ∷ Missing ∷ BadName ∷ []
