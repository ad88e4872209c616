-- What is left where an action's items are queued and more follows.
use Rattle.std.specs.Prelude.{ℕ}
use Rattle.lock_journal.specs.Names.{IsFixedList, Submit}
use Rattle.coordination.specs.Calls.{HasFinished}
use Rattle.coordination.specs.declared.rule.Sight.{Sight}

-- The action's items were queued, and what followed is so of what the pass had seen then.
pub record HasSubmittedThen (a : ℕ) (old : Sight) (Follows : Sight → Type 0) : Type 0 where
  pub between : Sight
  pub submitted : HasFinished (Submit a) (IsFixedList (Submit a)) old between
  pub follows : Follows between
