-- Graphs in which each task has a rank.
use Rattle.std.specs.Prelude.{ℕ, None, map}
use Rattle.resource_lock.specs.GraphView.{GraphView, GraphTaskView}
use Rattle.ready_work.specs.Rank.{Dependencies, IsFirstCycle, Ranked}
use Rattle.ready_work.specs.Rank.Ranked.{ranked}

-- no task comes after itself, nor after one that does
abbrev pub HasRanks : GraphView → Type 0
HasRanks g = IsFirstCycle (map (λ t. t.after) g.tasks) None

-- a rank comes about in one way
Ranked-prop : (d : Dependencies) (t : ℕ) → IsProp (Ranked d t)
Ranked-prop d t (ranked _ f) (ranked _ g) = λ i. ranked t (λ u before. Ranked-prop d u (f u before) (g u before) i)

pub HasRanks-prop : (g : GraphView) → IsProp (HasRanks g)
HasRanks-prop g p q = λ i t low. Ranked-prop (map (λ (t : GraphTaskView). t.after) g.tasks) t (p t low) (q t low) i
