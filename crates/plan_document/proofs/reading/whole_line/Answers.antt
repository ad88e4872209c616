use Rattle.std.proofs.Common.{rules}
use Rattle.toml.specs.Parse.{line}
use Rattle.plan_document.proofs.reading.whole_line.Goals as goal

pub returns-in_err-said-clause-value : goal.returns-in_err-said-clause-value
unfolding line
returns-in_err-said-clause-value c = search rules

pub returns-then-not-matches-clause-value : goal.returns-then-not-matches-clause-value
unfolding line
returns-then-not-matches-clause-value c = search rules

pub returns-clause-value : goal.returns-clause-value
unfolding line
returns-clause-value c = search rules
