-- The command that words are.
use Rattle.std.specs.Prelude.{codes, if◌then◌else◌, List, [], ◌∷◌, Option, Some, None, option_map}
use Rattle.std.specs.Str.{bytes_eq}
use Rattle.clap.specs.Walk.{Text}
use Rattle.command_words.specs.Run.{HasBounds, run_of}
use Rattle.command_words.specs.Check.{check_of}
use Rattle.command_words.specs.Again.{again_of}
use Rattle.command_words.specs.Make.{make_of}
use Rattle.command_words.specs.declared.commands.Command.{Command}
use Rattle.command_words.specs.declared.commands.Command.TheVariants.{Run, Worker, Check, Again, Make}

-- the commands besides `run` and `worker`
abbrev pub other_named : Text → List Text → Option Command
other_named name words =
    if bytes_eq name (codes "check") then option_map Check (check_of words)
    else if bytes_eq name (codes "again") then option_map Again (again_of words)
    else if bytes_eq name (codes "make") then option_map Make (make_of words)
    else None

-- by its name, and what the words behind the name ask for; what follows `worker` isn't looked at
abbrev pub command_named : Text → List Text → Option Command
command_named name words =
    if bytes_eq name (codes "run") then option_map Run (run_of words)
    else if bytes_eq name (codes "worker") then Some Worker
    else other_named name words

-- the first word is the name
abbrev pub command_of : List Text → Option Command
command_of [] = None
command_of (name ∷ words) = command_named name words

-- the numbers that a command may have
abbrev pub IsBounded : Command → Type 0
IsBounded (Run run) = HasBounds run
IsBounded _ = Unit {0}
