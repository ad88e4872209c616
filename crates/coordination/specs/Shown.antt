-- What a pass shows of its worker: what is the worker's own in the book that it last saw.
use Rattle.std.specs.Prelude.{◌≡◌, Bool, List}
use Rattle.lock_journal.specs.Names.{holding_of, LockId, MarkId, owned, claimed}
use Rattle.coordination.specs.declared.rule.Sight.{Sight}

abbrev pub locks_shown : Sight → List LockId
locks_shown s = owned s.seen.state s.worker

abbrev pub lease_shown : Sight → Bool
lease_shown s = (holding_of s.seen.state s.worker).lease

abbrev pub claimed_shown : Sight → List MarkId
claimed_shown s = claimed s.seen.state s.worker

abbrev pub parked_shown : Sight → List LockId
parked_shown s = (holding_of s.seen.state s.worker).parked

abbrev pub blocked_shown : Sight → Bool
blocked_shown s = (holding_of s.seen.state s.worker).blocked

-- The graph is the same, the worker is blocked if it was, and it has these locks, a lease or none, these claimed marks and these parked locks.
pub record Shows (own : List LockId) (leased : Bool) (marks : List MarkId) (put_by : List LockId) (old new : Sight) : Type 0 where
  pub worker : new.worker ≡ old.worker
  pub graph : new.seen.graph ≡ old.seen.graph
  pub locks : locks_shown new ≡ own
  pub lease : lease_shown new ≡ leased
  pub claimed : claimed_shown new ≡ marks
  pub parked : parked_shown new ≡ put_by
  pub blocked : blocked_shown new ≡ blocked_shown old

-- the pass shows what it showed
abbrev pub ShowsTheSame : Sight → Sight → Type 0
ShowsTheSame old new = Shows (locks_shown old) (lease_shown old) (claimed_shown old) (parked_shown old) old new
