-- The keys that each table of a plan may have, and what may stand under them.
use Rattle.std.specs.Prelude.{codes, Bool, true, false, ◌&&◌, List, [], ◌∷◌, Some, is_some}
use Rattle.std.specs.List.{list_all}
use Rattle.toml.specs.Data.{Data}
use Rattle.plan_table.specs.declared.rules.TableKind.{TableKind}
use Rattle.plan_table.specs.declared.rules.TableKind.TheVariants.{Document, Project, Task, Action, Item, Requirements}
use Rattle.plan_table.specs.declared.rules.ValueForm.{ValueForm}
use Rattle.plan_table.specs.declared.rules.ValueForm.TheVariants.{One, Many, Settings, Wait, Do, Isolation, KeepAlive, Integer, Boolean, Tables}
use Rattle.plan_table.specs.declared.rules.TextForm.{TextForm}
use Rattle.plan_table.specs.declared.rules.TextForm.TheVariants.{Name, FileName, Needle, Executable, Encoding, Argument}
use Rattle.plan_table.specs.declared.rules.KeyRule.{KeyRule}
use Rattle.item_actions.specs.Forms.{is_file_name}
use Rattle.item_actions.specs.Words.{action_kind_of, keep_alive_mode_of}
use Rattle.resource_lock.specs.Words.{retention_of}
use Rattle.plan_table.specs.Forms.{Text, is_name, is_needle, is_executable, is_encoding, is_value, is_key}
use Rattle.plan_table.specs.Values.{text_of, texts_of, table_pairs, is_text, is_integer, is_boolean, is_array, is_array_of_texts, is_table_of_texts, is_word}

-- a key that a table may have
pub record Rule : Type 0 where
  pub key : Text
  pub form : ValueForm
  pub required : Bool

abbrev pub rule_of : KeyRule → Rule
rule_of r = record { key = r.key.now; form = r.form; required = r.is_required }

abbrev pub required : Text → ValueForm → Rule
required key form = record { key = key; form = form; required = true }

abbrev pub optional : Text → ValueForm → Rule
optional key form = record { key = key; form = form; required = false }

abbrev pub rules : TableKind → List Rule
rules Document =
    optional (codes "project") Tables
    ∷ optional (codes "task") Tables
    ∷ optional (codes "requirements") Tables
    ∷ []
rules Project = required (codes "name") (One Name) ∷ []
rules Task =
    required (codes "name") (One Name)
    ∷ required (codes "project") (One Name)
    ∷ optional (codes "after") (Many Name)
    ∷ optional (codes "all_projects") Boolean
    ∷ optional (codes "action") Tables
    ∷ []
rules Action =
    optional (codes "wait") Wait
    ∷ optional (codes "fetch") (One FileName)
    ∷ required (codes "item") Tables
    ∷ []
rules Item =
    required (codes "do") Do
    ∷ required (codes "file") (One FileName)
    ∷ optional (codes "needle") (One Needle)
    ∷ optional (codes "isolation") Isolation
    ∷ optional (codes "requirements") (One Name)
    ∷ []
rules Requirements =
    required (codes "name") (One Name)
    ∷ optional (codes "executable") (One Executable)
    ∷ optional (codes "heap_mb") Integer
    ∷ optional (codes "args") (Many Argument)
    ∷ optional (codes "properties") Settings
    ∷ optional (codes "variables") Settings
    ∷ optional (codes "debug") Boolean
    ∷ optional (codes "assertions") Boolean
    ∷ optional (codes "encoding") (One Encoding)
    ∷ optional (codes "keep_alive") KeepAlive
    ∷ []

-- ---- words

abbrev pub isolations : List Text
isolations = codes "none" ∷ codes "process" ∷ codes "classloader" ∷ []

-- ---- a value's type, and the form of its texts

abbrev pub has_type : ValueForm → Data → Bool
has_type (One form) d = is_text d
has_type (Many form) d = is_array_of_texts d
has_type Settings d = is_table_of_texts d
has_type Wait d = is_some (retention_of (text_of d))
has_type Do d = is_some (action_kind_of (text_of d))
has_type Isolation d = is_word isolations d
has_type KeepAlive d = is_some (keep_alive_mode_of (text_of d))
has_type Integer d = is_integer d
has_type Boolean d = is_boolean d
has_type Tables d = is_array d

abbrev pub is_formed : TextForm → Text → Bool
is_formed Name = is_name
is_formed FileName = is_file_name
is_formed Needle = is_needle
is_formed Executable = is_executable
is_formed Encoding = is_encoding
is_formed Argument = is_value

abbrev pub is_setting : Text × Text → Bool
is_setting p = is_key p.0 && is_value p.1

abbrev pub has_form : ValueForm → Data → Bool
has_form (One form) d = is_formed form (text_of d)
has_form (Many form) d = list_all (is_formed form) (texts_of d)
has_form Settings d = list_all is_setting (table_pairs (Some d))
has_form _ d = true

-- of the type, and in the form
abbrev pub fits : ValueForm → Data → Bool
fits form d = has_type form d && has_form form d
