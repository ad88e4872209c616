use Rattle.std.proofs.Common.{rules}
use Rattle.toml.specs.Parse.{expression}
use Rattle.plan_document.proofs.reading.expression.Goals as goal

pub returns-then-first-ne91-clause-value : goal.returns-then-first-ne91-clause-value
unfolding expression
returns-then-first-ne91-clause-value c = search rules

pub returns-in_err-key-clause-value : goal.returns-in_err-key-clause-value
unfolding expression
returns-in_err-key-clause-value c = search rules

pub returns-then-byte_at-ne91-clause-value : goal.returns-then-byte_at-ne91-clause-value
unfolding expression
returns-then-byte_at-ne91-clause-value c = search rules

pub returns-in_err-key-2-clause-value : goal.returns-in_err-key-2-clause-value
unfolding expression
returns-in_err-key-2-clause-value c = search rules

pub returns-then-first-eq93-clause-value : goal.returns-then-first-eq93-clause-value
unfolding expression
returns-then-first-eq93-clause-value c = search rules

pub returns-else-first-eq93-clause-value : goal.returns-else-first-eq93-clause-value
unfolding expression
returns-else-first-eq93-clause-value c = search rules
