-- A service over a plan that was opened, as its workers see it.
use Rattle.std.specs.Prelude.{ℕ, ◌≡◌, List, [], map}
use Rattle.std.specs.List.{All}
use Rattle.atomic_table.specs.Seated.{TableId}
use Rattle.lock_journal.specs.Names.{BookView, IsAtRest, Fits, GraphView}
use Rattle.coordination.specs.Names.{PassView, sights_from}
use Rattle.planned_work.specs.Graphs.{graph_of_plan}
use Rattle.planned_work.specs.Plans.{WorkPlanView}
use Rattle.planned_work.specs.Ranks.{HasRanks}

-- They have all seen one book of this graph, which fits and in which each task has a rank. Nobody has anything there, and it has no entries. Each has
-- seen it by its number, and they share one service.
pub record IsOpenedOn (g : GraphView) (ps : List PassView) : Type 0 where
  pub book : BookView
  pub service : TableId
  pub fits : Fits g
  pub ranks : HasRanks g
  pub graph : book.graph ≡ g
  pub rest : IsAtRest book.state
  pub history : book.history ≡ []
  pub passes : map (λ p. p.sight) ps ≡ sights_from 0 g.workers book
  pub shared : All (λ p. p.service.table ≡ service) ps

-- the graph is that of the plan
abbrev pub IsOpenedFor : WorkPlanView → ℕ → ℕ → List PassView → Type 0
IsOpenedFor p workers max_leases ps = IsOpenedOn (graph_of_plan p workers max_leases) ps
