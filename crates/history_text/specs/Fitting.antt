-- Which values have a text: of the others the text would not say what they are.
use Rattle.std.specs.Prelude.{ℕ, ◌≡◌, ◌<◌, ◌≤◌, ◌^◌, List, Option, Some, None, IfSome}
use Rattle.std.specs.List.{AllByRecursion}
use Rattle.item_actions.specs.declared.outcomes.Outcome.{Outcome}
use Rattle.item_actions.specs.declared.outcomes.Outcome.TheVariants as outcomes
use Rattle.lock_journal.specs.Names.{WorkerId, MarkId, TaskOf, ActionOf, UnitOf, Mark, Running, Change, Lock, Unlock, Move, Unpark, Entry, Closed}
use Rattle.lock_journal.specs.Names.{Kind}
use Rattle.resource_lock.specs.declared.changes.Change.TheVariants.{Park}
use Rattle.lock_journal.specs.Bounds.{IsFitOutcome}
use Rattle.lock_transforms.specs.declared.entries.Kind.TheVariants as kinds
use Rattle.plan_reader.specs.declared.limits.TheConstants.{MAX_LEASES, MAX_WORKERS}

-- a mark that runs is run by the entry's worker
abbrev pub MarkFits : WorkerId → Mark → Type 0
MarkFits w (Running v) = v ≡ w
MarkFits w _ = Unit {0}

abbrev pub IdFits : MarkId → Type 0
IdFits (TaskOf n) = n < 2 ^ 32
IdFits (ActionOf n) = n < 2 ^ 32
IdFits (UnitOf n) = n < 2 ^ 32

abbrev pub ChangeFits : WorkerId → Change → Type 0
ChangeFits w (Lock l) = l.0 < 2 ^ 32
ChangeFits w (Unlock l) = l.0 < 2 ^ 32
ChangeFits w (Park l) = l.0 < 2 ^ 32
ChangeFits w (Unpark l) = l.0 < 2 ^ 32
ChangeFits w (Move id from to) = IdFits id × MarkFits w from × MarkFits w to
ChangeFits w _ = Unit {0}

-- a number of 64 bits, 32 bytes, or a word other than Skipped
abbrev pub OutcomeFits : Outcome → Type 0
OutcomeFits outcomes.Skipped = ⊥
OutcomeFits o = IsFitOutcome o

abbrev pub ClosedFits : Closed → Type 0
ClosedFits d = (d.unit < 2 ^ 32) × OutcomeFits d.outcome

abbrev pub KindFits : Kind → Type 0
KindFits (kinds.Start n) = n < 2 ^ 32
KindFits (kinds.Skip n) = n < 2 ^ 32
KindFits (kinds.End n) = n < 2 ^ 32
KindFits (kinds.Submit n) = n < 2 ^ 32
KindFits (kinds.Park n) = n < 2 ^ 32
KindFits (kinds.Resume n) = n < 2 ^ 32
KindFits (kinds.Claim n) = n < 2 ^ 32
KindFits (kinds.Close d) = ClosedFits d
KindFits (kinds.Block None) = Unit {0}
KindFits (kinds.Block (Some u)) = u < 2 ^ 32
KindFits (kinds.Unblock None) = Unit {0}
KindFits (kinds.Unblock (Some d)) = ClosedFits d
KindFits kinds.Acquire = Unit {0}
KindFits kinds.HandBack = Unit {0}

abbrev pub ChangesFit : WorkerId → List Change → Type 0
ChangesFit w cs = AllByRecursion (ChangeFits w) cs

abbrev pub EffectFits : WorkerId → Option (List Change) → Type 0
EffectFits w None = Unit {0}
EffectFits w (Some cs) = ChangesFit w cs

pub record EntryFits (e : Entry) : Type 0 where
  pub worker : e.worker.0 < 2 ^ 32
  pub kind : KindFits e.kind
  pub effect : EffectFits e.worker e.changes

abbrev pub EntriesFit : List Entry → Type 0
EntriesFit es = AllByRecursion EntryFits es

-- workers, leases and the number of locks or none, as the head names them
pub record HeadFits (workers max_leases : ℕ) (locks : Option ℕ) : Type 0 where
  pub some_worker : 1 ≤ workers
  pub few_workers : workers ≤ MAX_WORKERS
  pub some_lease : 1 ≤ max_leases
  pub few_leases : max_leases ≤ MAX_LEASES
  pub few_locks : IfSome locks (λ l. l < 2 ^ 32)
