use Rattle.std.proofs.Common.{ap, ◌∙◌}
use Rattle.std.proofs.lemmas.Result.{IfOk-weaker}
use Rattle.plan_reader.specs.Names.{known_numbers}
use Rattle.plan_reader.proofs.names.dependency_numbers.Goals as goal

pub returns-clause-numbers : goal.returns-clause-numbers
returns-clause-numbers c = IfOk-weaker c.numbers_of.result _ _ (λ numbers are. are ∙ ap (known_numbers c.args.names.now) c.after_of.ensures) c.numbers_of.ensures.numbers
