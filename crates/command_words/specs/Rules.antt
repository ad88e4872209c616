-- The arguments behind a command's name, as the parsers have them.
use Rattle.std.specs.Prelude.{codes, true, fold, List, [], ◌∷◌, Some}
use Rattle.clap.specs.Walk.{Rule, Text}
use Rattle.clap.specs.Simple.{App, Shape, new_rule, new_app, with_rule, on_top}
use Rattle.command_words.specs.declared.parser.Parameter.{Parameter}
use Rattle.command_words.specs.declared.parser.Parameter.TheVariants.{Required, WithValue, Flag}
use Rattle.clap.specs.declared.builder.action.ArgAction.TheVariants.{Set, SetTrue}

-- an option with one value
abbrev pub option_rule : Text → Rule
option_rule name = record (new_rule name) { long = Some name; action = Some Set }

abbrev pub flag_rule : Text → Rule
flag_rule name = record (new_rule name) { long = Some name; action = Some SetTrue }

-- a value that has to stand there, by its place
abbrev pub required_rule : Text → Rule
required_rule name = record (new_rule name) { required = true; action = Some Set }

abbrev pub asked_rule : Parameter → Rule
asked_rule (Required name) = required_rule name.now
asked_rule (WithValue name) = option_rule name.now
asked_rule (Flag name) = flag_rule name.now

-- the words begin behind the command's name, and there are no flags but its own
abbrev pub bare : Shape → Shape
bare s = record s { no_binary_name = true; disable_help_flag = true; disable_version_flag = true }

abbrev pub bare_app : Text → App
bare_app name = on_top bare (new_app name)

abbrev pub with_parameter : App → Parameter → App
with_parameter app parameter = with_rule app (asked_rule parameter)

-- a command's parser, to which its parameters were added one after another
abbrev pub app_with : Text → List Parameter → App
app_with name parameters = fold with_parameter (bare_app name) parameters

abbrev pub with_rules : App → List Rule → App
with_rules app rules = fold with_rule app rules

unfoldable pub run_app : App
run_app = with_rules (bare_app (codes "run")) (
    required_rule (codes "PLAN")
    ∷ option_rule (codes "max-workers") ∷ option_rule (codes "threads")
    ∷ flag_rule (codes "parallel") ∷ flag_rule (codes "history") ∷ flag_rule (codes "daemons")
    ∷ flag_rule (codes "watch") ∷ flag_rule (codes "summary") ∷ [])

unfoldable pub check_app : App
check_app = with_rules (bare_app (codes "check")) (required_rule (codes "PLAN") ∷ [])

unfoldable pub again_app : App
again_app = with_rules (bare_app (codes "again")) (required_rule (codes "PLAN") ∷ [])

unfoldable pub make_app : App
make_app = with_rules (bare_app (codes "make")) (required_rule (codes "SEED") ∷ required_rule (codes "FILE") ∷ [])
