use Rattle.std.proofs.Common.{take}
use Rattle.daemon_desk.specs.Commands.{SetsArguments}
use Rattle.daemon_desk.proofs.commands.add_arguments.Given as goal

abbrev pub invariant-loop-arg : goal.invariant-loop-arg
invariant-loop-arg l = SetsArguments (take l.arg-index l.args) l.fn.command l.command
