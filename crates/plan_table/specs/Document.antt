-- The document that a text is, or why it is none.
use Rattle.std.specs.Prelude.{ℕ, ◌≡◌, if◌then◌else◌, Bool, ◌&&◌, nat_lt, nat_le, List, length, Option, Some, None, option_map, Result, Ok}
use Rattle.std.specs.Prelude.{Err}
use Rattle.std.specs.Str.{is_utf8}
use Rattle.toml.specs.Data.{Data, table}
use Rattle.toml.specs.Parse.{parse_document}
use Rattle.plan_document.specs.View.{view}
use Rattle.plan_document.specs.declared.values.Value.{Value}
use Rattle.item_actions.specs.Value.{max_file_bytes}
use Rattle.plan_table.specs.declared.document.TheConstants.{MAX_PARTS}
use Rattle.plan_table.specs.declared.refusals.PlanRefusal.{PlanRefusal}
use Rattle.plan_table.specs.declared.refusals.PlanRefusal.TheVariants.{TooLong, NotToml}
use Rattle.plan_table.specs.declared.refusals.PlanFail.{PlanFail}
use Rattle.plan_table.specs.declared.refusals.PlanFail.TheVariants.{Refused, NoMemory}
use Rattle.plan_table.specs.Keys.{projects_of, tasks_of, requirements_of}

-- the document that toml reads in the bytes, if they are UTF-8 and it reads one
abbrev pub document_of : List ℕ → Option Data
document_of bytes = if is_utf8 bytes then option_map table (parse_document bytes) else None

abbrev pub document_or_not_toml : Option Data → Result Data PlanRefusal
document_or_not_toml None = Err NotToml
document_or_not_toml (Some d) = Ok d

abbrev pub document_reading : List ℕ → Result Data PlanRefusal
document_reading bytes = if nat_lt max_file_bytes (length bytes) then Err TooLong else document_or_not_toml (document_of bytes)

-- memory ran out, or this is the refusal
abbrev pub RefusesDocument : PlanFail → Result Data PlanRefusal → Type 0
RefusesDocument NoMemory reading = Unit {0}
RefusesDocument (Refused r) reading = reading ≡ Err r

-- this is the document, or the refusal, or memory ran out
abbrev pub ReadsDocument : Result Value PlanFail → Result Data PlanRefusal → Type 0
ReadsDocument (Ok v) reading = reading ≡ Ok (view v)
ReadsDocument (Err fail) reading = RefusesDocument fail reading

-- the number of each is one that a place can have
abbrev pub have_numbers : List Data → Bool
have_numbers ds = nat_le (length ds) MAX_PARTS

-- each project, task and requirements has such a number
abbrev pub is_numbered : Data → Bool
is_numbered d = have_numbers (projects_of d) && have_numbers (tasks_of d) && have_numbers (requirements_of d)
