use Rattle.std.proofs.Common.{◌≡◌, take}
use Rattle.clap.specs.Simple.{app_of}
use Rattle.command_words.specs.Rules.{app_with}
use Rattle.command_words.proofs.parser.command_with.Given as goal

abbrev pub invariant-loop-parameter : goal.invariant-loop-parameter
invariant-loop-parameter l = app_of l.command ≡ app_with l.fn.name (take l.parameter-index l.parameters)
