-- What taking a service's history leaves.
use Rattle.std.specs.Prelude.{◌≡◌}
use Rattle.lock_journal.specs.Names.{BookView, GivesTo, SegmentView}
use Rattle.lock_journal.specs.Giving.{CanGive}
use Rattle.worker_notes.specs.Agrees.{Finds, IsSoundBook}
use Rattle.coordination.specs.Sights.{seeing}
use Rattle.coordination.specs.declared.rule.Sight.{Sight}

-- The entries that the book kept stand in the segment. The worker has seen the book without them, which is sound and has its history.
pub record HasTakenHistory (old new : Sight) (segment segment' : SegmentView) : Type 0 where
  pub before : BookView
  pub after : BookView
  pub found : Finds old.worker old.seen before
  pub can : CanGive before segment
  pub given : GivesTo before after segment segment'
  pub left : IsSoundBook after
  pub sight : new ≡ seeing old after

-- The book that was found can't give its entries to the segment, which is as before.
pub record HasTakenNone (old new : Sight) (segment segment' : SegmentView) : Type 0 where
  pub book : BookView
  pub found : Finds old.worker old.seen book
  pub cannot : CanGive book segment → ⊥
  pub same : segment' ≡ segment
  pub sight : new ≡ seeing old book
