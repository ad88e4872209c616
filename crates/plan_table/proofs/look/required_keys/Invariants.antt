use Rattle.std.proofs.Common.{drop, map}
use Rattle.plan_table.specs.Rules.{rule_of}
use Rattle.plan_table.proofs.Looking.{Looks}
use Rattle.plan_table.proofs.look.required_keys.Given as goal

abbrev pub invariant-loop-entry : goal.invariant-loop-entry
invariant-loop-entry l = Looks (map rule_of l.rules) l.entries l.required (drop l.entry-index l.entries)
