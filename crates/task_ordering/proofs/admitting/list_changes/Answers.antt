use Rattle.std.proofs.Common.{rules}
use Rattle.std.proofs.lemmas.Iterator.Adapters.{items_from_extend}
use Rattle.std.proofs.lemmas.Iterator.Consumers.{YieldsList-from_first}
use Rattle.lock_journal.specs.Changes.{changes_left}
use Rattle.task_ordering.proofs.admitting.list_changes.Goals as goal

pub returns : goal.returns
returns c = let h = items_from_extend c.extend.result c.extend.ensures.ran (YieldsList-from_first (λ x. x) changes_left (changes_left c.args.changes) cc) in search rules
