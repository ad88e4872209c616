-- One look at each table, in place of a search by each of the tests.
use Rattle.std.specs.Prelude.{ℕ, Bool, false, if◌then◌else◌, List, Option, Some, None, count_by}
use Rattle.std.specs.List.{find, list_any, list_all}
use Rattle.std.specs.Option.{option_map_or}
use Rattle.std.specs.Str.{bytes_eq}
use Rattle.toml.specs.Data.{Data}
use Rattle.plan_table.specs.declared.rules.TableKind.{TableKind}
use Rattle.plan_table.specs.declared.look.Sought.{Sought}
use Rattle.plan_table.specs.declared.look.Sought.TheVariants.{Anything, One}
use Rattle.plan_table.specs.Forms.{Text}
use Rattle.plan_table.specs.Rules.{Rule, fits}
use Rattle.plan_table.specs.Tables.{holds, tests}

-- ---- the keys that a table has

abbrev pub rule_for : List Rule → Text → Option Rule
rule_for rs key = find (λ r. bytes_eq r.key key) rs

-- a key with its value that a rule lets stand there
abbrev pub is_allowed : List Rule → Text × Data → Bool
is_allowed rs e = option_map_or (λ r. fits r.form e.1) (rule_for rs e.0) false

-- a key that has to be there
abbrev pub is_required : List Rule → Text × Data → Bool
is_required rs e = option_map_or (λ r. r.required) (rule_for rs e.0) false

-- how many of the keys have to be there, where each may stand there
abbrev pub required_keys : List Rule → List (Text × Data) → Option ℕ
required_keys rs es = if list_all (is_allowed rs) es then Some (count_by (is_required rs) es) else None

-- ---- the look

-- any of the tests holds of the table
abbrev pub any_holds : TableKind → Data → Bool
any_holds kind d = list_any (λ t. holds t kind d) tests

abbrev pub is_found : Sought → TableKind → Data → Bool
is_found Anything = any_holds
is_found (One test) = holds test
