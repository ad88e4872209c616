use Rattle.std.proofs.Common.{rules}
use Rattle.std.proofs.Common.{arith}
use Rattle.std.proofs.lemmas.Bool.Decides.{nat_tests}
use Rattle.std.proofs.lemmas.Grind.{common_steps}
use Rattle.toml.specs.Parse.{atom}
use Rattle.plan_document.proofs.Views.{view-String}
use Rattle.plan_document.proofs.inner_values.plain.Goals as goal

pub returns-in_err-scalar-clause-value : goal.returns-in_err-scalar-clause-value
unfolding atom
returns-in_err-scalar-clause-value c = search rules

pub returns-then-not-starts_string-clause-value : goal.returns-then-not-starts_string-clause-value
unfolding atom
returns-then-not-starts_string-clause-value c = grind (arith, nat_tests, common_steps)

pub returns-in_err-string-clause-value : goal.returns-in_err-string-clause-value
unfolding atom
returns-in_err-string-clause-value c = search rules

pub returns-clause-value : goal.returns-clause-value
unfolding atom
returns-clause-value c = rw (view-String c.in_ok-string.string) (grind (arith, nat_tests, common_steps))
