-- What the calls under the state lock leave of a pass.
use Rattle.std.specs.Prelude.{◌≡◌, ◌<◌, ◌⊎◌, List}
use Rattle.lock_journal.specs.Names.{WorkerId, Change, BookView, Kind}
use Rattle.lock_journal.specs.Ran as journal
use Rattle.coordination.specs.declared.rule.Sight.{Sight}
use Rattle.worker_notes.specs.Agrees.{Finds, IsSoundBook}
use Rattle.coordination.specs.Attempts.{Cause, Making}
use Rattle.coordination.specs.Sights.{seeing, stopping, hearing}

-- The transform found a book (`Finds`), and finished. The pass has seen the book with its entry, which is sound again.
pub record HasFinished (kind : Kind) (makes : Making) (old new : Sight) : Type 0 where
  pub before : BookView
  pub after : BookView
  pub changes : List Change
  pub found : Finds old.worker old.seen before
  pub graph : after.graph ≡ before.graph
  pub finished : journal.FinishesIn makes before after old.worker kind changes
  pub left : IsSoundBook after
  pub sight : new ≡ seeing old after

-- The transform found a book, and failed. The pass has seen the book with its failed entry, which is sound again.
pub record HasFailed (kind : Kind) (fails : Cause) (old new : Sight) : Type 0 where
  pub before : BookView
  pub after : BookView
  pub found : Finds old.worker old.seen before
  pub graph : after.graph ≡ before.graph
  pub failed : journal.FailsIn fails before after old.worker kind
  pub left : IsSoundBook after
  pub sight : new ≡ seeing old after

-- Nothing of the worker's has changed: the pass has seen the book that it found.
pub record HasLooked (old new : Sight) : Type 0 where
  pub book : BookView
  pub found : Finds old.worker old.seen book
  pub sight : new ≡ seeing old book

-- The transform asked to be run again on the book that it found, and the pass heard which worker has stopped the service.
pub record WasStopped (retries : Cause) (by : WorkerId) (old new : Sight) : Type 0 where
  pub book : BookView
  pub found : Finds old.worker old.seen book
  pub cause : retries book.graph old.worker book.state
  pub stopper : by.0 < book.graph.workers
  pub sight : new ≡ hearing (seeing old book) by

-- The question was answered of the book that was found, and the pass has seen it.
pub record IsAnswered {A : Type 0} (answers : WorkerId → BookView → A → Type 0) (a : A) (old new : Sight) : Type 0 where
  pub book : BookView
  pub found : Finds old.worker old.seen book
  pub answer : answers old.worker book a
  pub sight : new ≡ seeing old book

-- The question had no answer of the book that was found, and the pass heard which worker has stopped the service.
pub record AskedInVain (waits : WorkerId → BookView → Type 0) (by : WorkerId) (old new : Sight) : Type 0 where
  pub book : BookView
  pub found : Finds old.worker old.seen book
  pub cause : waits old.worker book
  pub stopper : by.0 < book.graph.workers
  pub sight : new ≡ hearing (seeing old book) by

-- The worker has stopped the service, or heard which worker did so before.
abbrev pub HasStopped : Sight → Sight → Type 0
HasStopped old new = (new ≡ stopping old) ⊎ ((by : WorkerId) × (by.0 < old.seen.graph.workers) × (new ≡ hearing old by))
