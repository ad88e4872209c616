use Rattle.std.proofs.Common.{rules}
use Rattle.toml.specs.Parse.{header_key}
use Rattle.plan_document.proofs.reading.header_key.Goals as goal

pub returns-in_err-key-clause-value : goal.returns-in_err-key-clause-value
unfolding header_key
returns-in_err-key-clause-value c = search rules

pub returns-then-first-eq93-clause-value : goal.returns-then-first-eq93-clause-value
unfolding header_key
returns-then-first-eq93-clause-value c = search rules

pub returns-else-first-eq93-clause-value : goal.returns-else-first-eq93-clause-value
unfolding header_key
returns-else-first-eq93-clause-value c = search rules
