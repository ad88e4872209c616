-- Graphs over which the rules refuse no call of a worker.
use mathlib.Core.HLevel.{×_prop}
use Rattle.std.specs.Prelude.{ℕ, ◌≡◌, ◌+◌, List, [], ◌∷◌}
use Rattle.std.proofs.Props.{props}
use Rattle.lock_journal.specs.Names.{Fits, Follow, GraphView}
use Rattle.planned_work.specs.InPlace.{ReleasesLast}
use Rattle.planned_work.specs.Ranks.{HasRanks, HasRanks-prop}

-- The graph fits, each task has a rank, and no action but the last of its task releases: so is each that is made of a plan.
pub record IsPlanFit (g : GraphView) : Type 0 where
  pub fits : Fits g
  pub ranks : HasRanks g
  pub last : ReleasesLast g

-- it is so in one way
Follow-prop : {X : Type 0} (first count : X → ℕ) (n : ℕ) (xs : List X) (stop : ℕ) → IsProp (Follow first count n xs stop)
Follow-prop first count n [] stop = hlevel props
Follow-prop first count n (x ∷ xs) stop = let here : IsProp (first x ≡ n) = hlevel props in ×_prop here (Follow-prop first count (n + count x) xs stop)

Fits-prop : (g : GraphView) → IsProp (Fits g)
Fits-prop g = hlevel (props, Follow-prop)

ReleasesLast-prop : (g : GraphView) → IsProp (ReleasesLast g)
ReleasesLast-prop g = hlevel props

pub IsPlanFit-prop : (g : GraphView) → IsProp (IsPlanFit g)
IsPlanFit-prop g a b = λ i. record {
  fits = Fits-prop g a.fits b.fits i;
  ranks = HasRanks-prop g a.ranks b.ranks i;
  last = ReleasesLast-prop g a.last b.last i;
}
