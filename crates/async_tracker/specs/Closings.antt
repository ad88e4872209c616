-- What is left where an item is closed and more follows.
use Rattle.lock_journal.specs.Names.{IsFixedList, Closed}
use Rattle.lock_transforms.specs.declared.entries.Kind.TheVariants as kinds
use Rattle.coordination.specs.Calls.{HasFinished}
use Rattle.coordination.specs.declared.halts.Halt.{Halt}
use Rattle.coordination.specs.declared.halts.Halt.TheVariants as halts
use Rattle.coordination.specs.declared.rule.Sight.{Sight}
use Rattle.async_tracker.specs.Shows.{ShowsClosed}
use Rattle.async_tracker.specs.declared.closing.CloseHalt.{CloseHalt}
use Rattle.async_tracker.specs.declared.closing.CloseHalt.TheVariants.{NotClosed, Closed as ClosedThen}

-- The worker closed the item, and what followed is so of what its pass had seen then.
pub record HasClosedThen (c : Closed) (old : Sight) (Follows : Sight → Type 0) : Type 0 where
  pub between : Sight
  pub closed : HasFinished (kinds.Close c) (IsFixedList (kinds.Close c)) old between
  pub shows : ShowsClosed c.unit old between
  pub follows : Follows between

-- the same as the halt of a call
abbrev pub halt_of : CloseHalt → Halt
halt_of NotClosed = halts.NoMemory
halt_of (ClosedThen halt) = halt
