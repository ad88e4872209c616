-- What a closed service leaves.
use Rattle.std.specs.Prelude.{◌≡◌, ◌<◌, List, true, Some}
use Rattle.std.specs.List.{All, Any}
use Rattle.lock_journal.specs.Names.{IsAtRest, GraphView, WorkerId, BookView}
use Rattle.worker_notes.specs.Agrees.{Agrees}
use Rattle.coordination.specs.Holds.{HoldsNothing}
use Rattle.coordination.specs.Passes.{PassView}
use Rattle.coordination.specs.Together.{ComeTo}

-- The book of the graph agrees with each pass, and they come to it together. Where all hold nothing it is at rest. Who
-- is shown to have stopped the service has a pass that shows that too.
pub record IsClosedBy (ps : List PassView) (g : GraphView) (book : BookView) : Type 0 where
  pub graph : book.graph ≡ g
  pub agrees : All (λ p. Agrees p.sight.worker p.sight.seen book) ps
  pub rest : All (λ p. HoldsNothing p.sight) ps → IsAtRest book.state
  pub entries : All (λ e. e.worker.0 < book.graph.workers) book.history
  pub together : ComeTo ps book
  pub stopped_by : All (λ p. (by : WorkerId) → p.sight.stopped_by ≡ Some by → Any (λ q. (q.sight.worker ≡ by) × (q.sight.stopped ≡ true)) ps) ps
