-- A closed service over a plan, where a worker was told that all tasks have ended.
use Rattle.std.proofs.Common.{◌≡◌, ℕ, zero, suc, ◌<◌, ◌++◌, List, [], ◌∷◌, length, get_or, map, refl, sym, ap, subst, arith}
use Rattle.std.specs.List.{All, Any}
use Rattle.std.proofs.lemmas.List.{length-map}
use Rattle.lock_journal.specs.Names.{Fits, GraphView, GraphTaskView, no_task, StateView, BookView, IsEnded, AreRanks, Lawful, Entry, replay}
use Rattle.ready_work.specs.Numbering.{IsNumbering}
use Rattle.ready_work.specs.Rank.{Dependencies, InRange, after}
use Rattle.coordination.specs.Names.{Agrees, IsClosedBy, PassView}
use Rattle.coordination.specs.declared.rule.Sight.{Sight}
use Rattle.coordination.proofs.lemmas.Numbered.{element}
use Rattle.planned_work.specs.Next.{IsToldTheEnd}
use Rattle.planned_work.specs.PlanRun.{HasSeenTheEnd}
use Rattle.planned_work.specs.Ranks.{HasRanks}

-- who was told the end has seen it
pub told_the_end : (Here : BookView → Type 0) (s s' : Sight) → IsToldTheEnd Here s s' → HasSeenTheEnd s'
told_the_end Here s s' t =
    subst HasSeenTheEnd (sym t.told.sight) (record { sound = t.told.found.sound; ended = t.told.answer.3 })

-- all tasks have ended in the book, since they had for one of the workers
pub ended_in : (ps : List PassView) (g : GraphView) (book : BookView) → IsClosedBy ps g book → Any (λ (p : PassView). HasSeenTheEnd p.sight) ps → Lawful book.graph book.history
    → ((g : GraphView) (h later : List Entry) → Lawful g (h ++ later) → All IsEnded (replay g h).tasks → All IsEnded (replay g (h ++ later)).tasks)
    → All IsEnded (replay book.graph book.history).tasks
ended_in ps g book closed seen lawful on =
    let p : PassView = seen.1 in
    let a : Agrees p.sight.worker p.sight.seen book = subst (λ (q : PassView). Agrees q.sight.worker q.sight.seen book) seen.3 (closed.agrees seen.0 p seen.2) in
    let e : HasSeenTheEnd p.sight = seen.4 in
    let there : All IsEnded (replay book.graph p.sight.seen.history).tasks =
    subst (λ (g : GraphView). All IsEnded (replay g p.sight.seen.history).tasks) (sym a.graph) (subst (λ (s : StateView). All IsEnded s.tasks) e.sound.replays e.ended) in
    subst (λ (h : List Entry). All IsEnded (replay book.graph h).tasks) (sym a.history) (on book.graph p.sight.seen.history a.between (subst (Lawful book.graph) a.history lawful) there)

-- the graph of the book is the one that each worker has seen, so its tasks have ranks
pub ranked_in : (ps : List PassView) (g : GraphView) (book : BookView) → IsClosedBy ps g book → 0 < length ps → All (λ (p : PassView). HasRanks p.sight.seen.graph) ps → HasRanks book.graph
ranked_in ps g book closed some ranked =
    let d = element ps 0 some in
    subst HasRanks (sym (closed.agrees 0 d some).graph) (ranked 0 d some)

abbrev afters_in : List GraphTaskView → Dependencies
afters_in ts = map (λ t. t.after) ts

after_in : (ts : List GraphTaskView) (t : ℕ) → after (afters_in ts) t ≡ (get_or ts t no_task).after
after_in [] t = refl
after_in (x ∷ ts) zero = refl
after_in (x ∷ ts) (suc t) = after_in ts t

module _ (g : GraphView) (fits : Fits g) where
  pub in_range : InRange (afters_in g.tasks)
  in_range = λ t k lt within.
      let size = length-map g.tasks (λ (t : GraphTaskView). t.after) in
      let same = after_in g.tasks t in
      let low : get_or (after (afters_in g.tasks) t) k 0 < length g.tasks =
      subst (λ us. get_or us k 0 < length g.tasks) (sym same) (fits.after_within t no_task (omega (arith, lt, size)) k 0 (omega (arith, within, ap length same))) in
      omega (arith, low, size)

  pub ranks_of : (number : ℕ → ℕ) → IsNumbering (afters_in g.tasks) number → AreRanks g number
  ranks_of number numbers = λ t. subst (All (λ u. number u < number t)) (after_in g.tasks t) (numbers.rises t)

  pub below : (number : ℕ → ℕ) → IsNumbering (afters_in g.tasks) number → (t : ℕ) → t < length g.tasks → number t < length g.tasks
  below number numbers t lt =
      let size = length-map g.tasks (λ (t : GraphTaskView). t.after) in
      let low = numbers.below t (omega (arith, lt, size)) in
      omega (arith, low, size)
