-- There are as many desks as any command may use.
use Rattle.std.proofs.Common.{◌≤◌, Some, arith}
use Rattle.command_words.specs.Reading.{IsBounded}
use Rattle.command_words.specs.declared.commands.Command.{Command}
use Rattle.command_words.specs.declared.commands.Command.TheVariants.{Run, Worker, Check, Again, Make}
use Rattle.command_answers.specs.Around.{desks_used}
use Rattle.leases_cli.specs.declared.top.TheConstants.{DESKS}

-- so many are enough
pub few_used : (command : Command) → IsBounded command → desks_used (Some command) ≤ DESKS
few_used (Run asked) bounds = bounds.few_threads
few_used Worker bounds = omega arith
few_used (Check name) bounds = omega arith
few_used (Again name) bounds = omega arith
few_used (Make asked) bounds = omega arith
