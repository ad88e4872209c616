-- What the words behind `make` ask for.
use Rattle.std.specs.Prelude.{codes, ℕ, if◌then◌else◌, List, Option, None, option_map}
use Rattle.clap.specs.Walk.{Row, Text}
use Rattle.item_actions.specs.Forms.{is_file_name}
use Rattle.command_words.specs.Matching.{asked_of, given}
use Rattle.command_words.specs.Numbers.{seed_of}
use Rattle.command_words.specs.Rules.{make_app}
use Rattle.command_words.specs.declared.commands.MakeWords.{MakeWords}

abbrev pub plan_asked : Text → ℕ → MakeWords
plan_asked file seed = record { seed = seed; file = file }

-- a name that has the form of a file's, and a number
abbrev pub make_of_rows : List Row → Option MakeWords
make_of_rows rows = if is_file_name (given (codes "FILE") rows)
    then option_map (plan_asked (given (codes "FILE") rows)) (seed_of (given (codes "SEED") rows)) else None

abbrev pub make_of : List Text → Option MakeWords
make_of words = asked_of make_app make_of_rows words
