use Rattle.std.proofs.Common.{rules}
use Rattle.toml.specs.Parse.{after_element}
use Rattle.plan_document.proofs.inner_values.past_comma.Goals as goal

pub returns-in-44-clause-value : goal.returns-in-44-clause-value
unfolding after_element
returns-in-44-clause-value c = search rules

pub returns-in_default-clause-value : goal.returns-in_default-clause-value
unfolding after_element
returns-in_default-clause-value c = search rules

pub returns-in_default-2-clause-value : goal.returns-in_default-2-clause-value
unfolding after_element
returns-in_default-2-clause-value c = search rules
