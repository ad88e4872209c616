use Rattle.std.proofs.Common.{◌≡◌, ◌<◌, ◌≤◌, ◌+◌, ℕ, List, false, length, map, take, get_or, arith, sym, ap, ◌∙◌, subst}
use Rattle.std.specs.List.{All}
use Rattle.std.proofs.lemmas.List.{take_all}
use Rattle.std.proofs.lemmas.List.Elements.{All-push}
use Rattle.atomic_table.specs.Seated.{TableId}
use Rattle.coordination.specs.Passes.{PassView}
use Rattle.planned_work.specs.Ranks.{HasRanks}
use Rattle.wakhurmi_c.specs.declared.planned_handles.PlannedHandle.{PlannedHandle}
use Rattle.wakhurmi_c.proofs.Gathering.{all_front, all_more, map_more, same_at, same_behind}
use Rattle.wakhurmi_c.proofs.planned_closing.gather.Goals as goal

pub take-requires : goal.take-requires
take-requires c =
    let low : c.loop-handle.handle-index < length c.args.handles.now = omega (arith, c.loop-handle-test.true, c.loop-handle.auto.handles) in
    ap (λ (h : PlannedHandle). h.full) (same_at c.loop-handle.handles c.args.handles.now c.loop-handle.handle-index c.handle-item.result c.loop-handle.invariant.3) ∙ c.requires.full c.loop-handle.handle-index c.handle-item.result low

pub loop-handle-preserved : goal.loop-handle-preserved
loop-handle-preserved c =
    let inv = c.loop-handle.invariant in
    let hs : List PlannedHandle = c.args.handles.now in
    let i : ℕ = c.loop-handle.handle-index in
    let item : PlannedHandle = c.handle-item.result in
    let low : i < length hs = omega (arith, c.loop-handle-test.true, c.loop-handle.auto.handles) in
    let there : i < length c.loop-handle.handles = omega (arith, c.loop-handle-test.true, c.loop-handle.auto.handles) in
    let pass_is : c.into_inner-service.result.pass ≡ (get_or hs i item).held.worker.pass =
    ap (λ w. w.pass) (c.into_inner-service.ensures ∙ c.take.ensures.worker) ∙ ap (λ (h : PlannedHandle). h.held.worker.pass) (same_at c.loop-handle.handles hs i item inv.3) in
    let passes : c.push_reserved.new.self.items ≡ map (λ (h : PlannedHandle). h.held.worker.pass) (take (i + 1) hs) =
    map_more (λ (h : PlannedHandle). h.held.worker.pass) hs c.loop-handle.passes.items c.push_reserved.new.self.items i item c.into_inner-service.result.pass low inv.0 c.push_reserved.ensures.items pass_is in
    let all = c.requires.service.1 in
    let same = sym (all i item low) ∙ (ap (λ (p : PassView). p.service.table) (sym pass_is) ∙ c.into_inner-service.result.own) in (
      passes,
      omega (arith, inv.1, c.push_reserved.ensures.capacity),
      all_more (λ (h : PlannedHandle). h.full ≡ false) c.loop-handle.handles i c.take.new.self there inv.2 c.take.ensures.empty,
      same_behind c.loop-handle.handles hs i c.take.new.self inv.3,
      subst (λ (t : TableId). All (λ (p : PassView). p.service.table ≡ t) c.push_reserved.new.self.items) same
          (subst (All (λ (p : PassView). p.service.table ≡ c.requires.service.0)) (sym passes)
          (all_front (λ (h : PlannedHandle). h.held.worker.pass) (λ (p : PassView). p.service.table ≡ c.requires.service.0) hs (i + 1) all)),
      (λ n are. sym c.into_inner-service.result.workers_are
          ∙ (ap (λ w. w.workers) (c.into_inner-service.ensures ∙ c.take.ensures.worker)
          ∙ (ap (λ (h : PlannedHandle). h.held.worker.workers) (same_at c.loop-handle.handles hs i item inv.3) ∙ are i item low))),
      tt,
      subst (All (λ (p : PassView). HasRanks p.sight.seen.graph)) (sym c.push_reserved.ensures.items)
          (All-push (λ (p : PassView). HasRanks p.sight.seen.graph) c.loop-handle.passes.items c.into_inner-service.result.pass inv.7 c.into_inner-service.result.fit.ranks),
    )

pub returns-clause-emptied : goal.returns-clause-emptied
returns-clause-emptied c =
    let end : length c.loop-handle.handles ≤ c.loop-handle.handle-index = omega (arith, c.loop-handle-test.false, c.loop-handle.auto.handles) in
    subst (All (λ (h : PlannedHandle). h.full ≡ false)) (take_all c.loop-handle.handle-index c.loop-handle.handles end) c.loop-handle.invariant.2
