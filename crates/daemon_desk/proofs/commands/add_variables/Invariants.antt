use Rattle.std.proofs.Common.{take}
use Rattle.daemon_desk.specs.Commands.{SetsVariables}
use Rattle.daemon_desk.proofs.commands.add_variables.Given as goal

abbrev pub invariant-loop-variable : goal.invariant-loop-variable
invariant-loop-variable l = SetsVariables (take l.variable-index l.variables) l.fn.command l.command
