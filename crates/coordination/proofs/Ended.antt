-- The book that was taken out for good, as its contract speaks of it.
use Rattle.std.proofs.Common.{◌≡◌, List, map, sym, ap, ◌∙◌, subst}
use mathlib.Core.Option.{some}
use lib.ListN.{get_elem?}
use Rattle.lock_journal.specs.Names.{GraphView, BookView}
use Rattle.coordination.specs.Names.{Agrees, IsClosedBy, HoldsNothing, KeptView, PassView, workers_from}
use Rattle.coordination.proofs.Closing.{Closes, graph_is, passes_agree, passes_stopped, sound_is, workers_all}
use Rattle.coordination.proofs.AtRest.{known_entries, rests_with, to_sights}
use Rattle.coordination.proofs.Together.{come_to}

pub closed_by : (g : GraphView) (ps : List PassView) (xs : List KeptView) (left : KeptView) (book : BookView) → map (λ p. p.sight.worker.0) ps ≡ workers_from 0 g.workers
    → Closes g (map (λ p. p.sight) ps) xs → get_elem? xs 0 ≡ some left → book ≡ left.book → IsClosedBy ps g book
closed_by g ps xs left book numbers z there is =
    let graph = graph_is g ps xs left book z there is in
    let agrees = passes_agree g ps xs left book z there is in
    let sound = sound_is g ps xs left book z there is in
    let all = numbers ∙ ap (λ (h : GraphView). workers_from 0 h.workers) (sym graph) in record {
      graph = graph;
      agrees = agrees;
      rest = λ nothing. rests_with book (map (λ p. p.sight) ps) sound (to_sights (λ s. Agrees s.worker s.seen book) ps agrees) (workers_all ps ∙ all) (to_sights HoldsNothing ps nothing);
      entries = known_entries book sound;
      together = come_to ps book sound agrees all;
      stopped_by = passes_stopped g ps xs numbers z;
    }

-- the graph that it is of is its own
pub of_own_graph : (g : GraphView) (ps : List PassView) (book : BookView) → IsClosedBy ps g book → IsClosedBy ps book.graph book
of_own_graph g ps book closed = subst (λ (h : GraphView). IsClosedBy ps h book) (sym closed.graph) closed
