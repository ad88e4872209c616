use Rattle.std.proofs.Common.{rules, arith}
use Rattle.std.proofs.lemmas.Bool.Decides.{nat_tests}
use Rattle.std.proofs.lemmas.Grind.{common_steps}
use Rattle.toml.proofs.Turns.{bom_boundary}
use Rattle.toml.specs.Parse.{skip_bom}
use Rattle.plan_document.proofs.reading.without_mark.Goals as goal

pub range_from-requires : goal.range_from-requires
unfolding skip_bom
range_from-requires c above = bom_boundary c.args.text.now c.utf8.text (grind (arith, nat_tests, common_steps))

pub returns-then-marked-clause-rest : goal.returns-then-marked-clause-rest
unfolding skip_bom
returns-then-marked-clause-rest c = search rules

pub returns-else-marked-clause-rest : goal.returns-else-marked-clause-rest
unfolding skip_bom
returns-else-marked-clause-rest c = search rules
