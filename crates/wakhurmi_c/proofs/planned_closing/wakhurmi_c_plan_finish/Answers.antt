use Rattle.std.proofs.Common.{◌≡◌, List, ap, arith, map, sym, subst, ◌∙◌}
use Rattle.std.specs.List.{Any}
use Rattle.std.proofs.lemmas.List.{length-map}
use Rattle.std.proofs.lemmas.List.{get_or-map as get_or-map-within}
use Rattle.planned_work.specs.PlanRun.{HasSeenTheEnd, IsPlanRun}
use Rattle.std.specs.Arc.{arc_value}
use Rattle.lock_journal.specs.BookView.{BookView}
use Rattle.coordination.specs.Names.{IsClosedBy, PassView}
use Rattle.wakhurmi_c.specs.declared.planned_handles.PlannedHandle.{PlannedHandle}
use Rattle.planned_work.specs.declared.workers.PlanWorker.{PlanWorker}
use Rattle.wakhurmi_c.proofs.PlannedWhole.{all_same, in_order, same_map}
use Rattle.wakhurmi_c.proofs.planned_closing.wakhurmi_c_plan_finish.Goals as goal

pub gather-requires-clause-service : goal.gather-requires-clause-service
gather-requires-clause-service c = (
  c.requires.service.0,
  all_same (λ (h : PlannedHandle). h.held.worker) (λ (w : PlanWorker). w.pass.service.table ≡ c.requires.service.0) c.are_whole.new.handles c.args.handles.now c.are_whole.ensures.workers c.requires.service.1,
)

pub close_by-requires-clause-all : goal.close_by-requires-clause-all
close_by-requires-clause-all c =
    in_order c.gather.result.service (λ s. (arc_value s).table.shared.key.kept.value.book.graph.workers) c.args.handles.now c.are_whole.new.handles c.gather.result.passes.items
    (c.are_whole.ensures.are c.if-not-are_whole.false) c.are_whole.ensures.workers c.gather.ensures.passes c.gather.ensures.workers

-- the passes of the handles that were given are those by which the book was taken out
passes_are : (hs new : List PlannedHandle) (ps : List PassView) → map (λ h. h.held.worker) new ≡ map (λ h. h.held.worker) hs → ps ≡ map (λ h. h.held.worker.pass) new → ps ≡ map (λ h. h.held.worker.pass) hs
passes_are hs new ps same are = are ∙ same_map (λ (h : PlannedHandle). h.held.worker) (λ (w : PlanWorker). w.pass) new hs same

pub returns-clause-closed : goal.returns-clause-closed
returns-clause-closed c = λ _.
    let passes = passes_are c.args.handles.now c.are_whole.new.handles c.gather.result.passes.items c.are_whole.ensures.workers c.gather.ensures.passes in
    subst (λ (x : List PassView × BookView). IsClosedBy x.0 x.1.graph x.1) (λ j. (passes j, sym c.of.ensures.book j)) c.close_by.ensures.closed

-- one of the handles' workers has seen the end: so has the worker of one of the passes
any_pass : (hs : List PlannedHandle) → Any (λ (h : PlannedHandle). HasSeenTheEnd h.held.worker.pass.sight) hs → Any (λ (p : PassView). HasSeenTheEnd p.sight) (map (λ h. h.held.worker.pass) hs)
any_pass hs seen =
    let h : PlannedHandle = seen.1 in
    let low = seen.2 in
    let size = length-map hs (λ (h : PlannedHandle). h.held.worker.pass) in (
      seen.0,
      h.held.worker.pass,
      omega (arith, low, size),
      get_or-map-within (λ (h : PlannedHandle). h.held.worker.pass) hs seen.0 h h.held.worker.pass low ∙ ap (λ (x : PlannedHandle). x.held.worker.pass) seen.3,
      seen.4,
    )

pub returns-clause-run : goal.returns-clause-run
returns-clause-run c = λ _ seen.
    let passes = passes_are c.args.handles.now c.are_whole.new.handles c.gather.result.passes.items c.are_whole.ensures.workers c.gather.ensures.passes in
    subst (λ (b : BookView). IsPlanRun b.graph b) (sym c.of.ensures.book)
    (c.close_by.ensures.run (subst (Any (λ (p : PassView). HasSeenTheEnd p.sight)) (sym passes) (any_pass c.args.handles.now seen)))
