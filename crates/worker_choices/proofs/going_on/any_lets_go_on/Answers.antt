use Rattle.std.proofs.Common.{refl, rules, tests}
use Rattle.std.proofs.lemmas.Iterator.Consumers.{YieldsList-from_first}
use Rattle.std.proofs.lemmas.Iterator.Search.{any_from_yields_List}
use Rattle.lock_journal.specs.Names.{changes_left, lets_go_on}
use Rattle.worker_choices.proofs.going_on.any_lets_go_on.Goals as goal

pub returns : goal.returns
returns c =
    any_from_yields_List lets_go_on c.any.new.self _ c.any.result c.any.ensures.ran (YieldsList-from_first (λ x. x) changes_left (changes_left c.args.changes) refl)
    (λ x b q k. search (rules, tests))
