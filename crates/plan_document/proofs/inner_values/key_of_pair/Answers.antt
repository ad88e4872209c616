use Rattle.std.proofs.Common.{rules}
use Rattle.toml.specs.Parse.{key_equals}
use Rattle.plan_document.proofs.inner_values.key_of_pair.Goals as goal

pub returns-in_err-key-clause-value : goal.returns-in_err-key-clause-value
unfolding key_equals
returns-in_err-key-clause-value c = search rules

pub returns-then-first-eq61-clause-value : goal.returns-then-first-eq61-clause-value
unfolding key_equals
returns-then-first-eq61-clause-value c = search rules

pub returns-else-first-eq61-clause-value : goal.returns-else-first-eq61-clause-value
unfolding key_equals
returns-else-first-eq61-clause-value c = search rules
