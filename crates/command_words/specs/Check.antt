-- What the words behind `check` ask for.
use Rattle.std.specs.Prelude.{codes, if◌then◌else◌, List, Option, Some, None}
use Rattle.clap.specs.Walk.{Row, Text}
use Rattle.command_words.specs.Matching.{asked_of, given}
use Rattle.command_words.specs.Rules.{check_app}
use Rattle.command_words.specs.Run.{is_plan_name}

-- the name of the plan's file
abbrev pub check_of_rows : List Row → Option Text
check_of_rows rows = if is_plan_name (given (codes "PLAN") rows) then Some (given (codes "PLAN") rows) else None

abbrev pub check_of : List Text → Option Text
check_of words = asked_of check_app check_of_rows words
