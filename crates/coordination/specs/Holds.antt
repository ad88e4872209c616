-- Workers that hold nothing.
use Rattle.std.specs.Prelude.{◌≡◌, []}
use Rattle.lock_journal.specs.Names.{empty_holding, holding_of, owned, claimed}
use Rattle.coordination.specs.declared.rule.Sight.{Sight}

-- the worker owns no lock, runs nothing, and has no lease and no parked lock, nor is it blocked
pub record HoldsNothing (s : Sight) : Type 0 where
  pub locks : owned s.seen.state s.worker ≡ []
  pub claimed : claimed s.seen.state s.worker ≡ []
  pub holding : holding_of s.seen.state s.worker ≡ empty_holding
