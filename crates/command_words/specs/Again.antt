-- What the words behind `again` ask for.
use Rattle.std.specs.Prelude.{List, Option}
use Rattle.clap.specs.Walk.{Text}
use Rattle.command_words.specs.Check.{check_of_rows}
use Rattle.command_words.specs.Matching.{asked_of}
use Rattle.command_words.specs.Rules.{again_app}

-- the name of the plan's file, as behind `check`
abbrev pub again_of : List Text → Option Text
again_of words = asked_of again_app check_of_rows words
