use Rattle.std.proofs.Common.{rules, ◌≡◌, ◌∷◌, ◌++◌, [], true, sym, ap, ◌∙◌, subst, append_assoc}
use Rattle.std.specs.List.{All}
use Rattle.std.proofs.lemmas.List.Elements.{All-push}
use Rattle.wakhurmi_c.specs.declared.planned_handles.PlannedHandle.{PlannedHandle}
use Rattle.wakhurmi_c.proofs.Counting.{mapped_push}
use Rattle.wakhurmi_c.proofs.planned_opening.fill.Goals as goal

pub loop-worker-preserved : goal.loop-worker-preserved
loop-worker-preserved c =
    let inv = c.loop-worker.invariant in
    let items = c.push_reserved.ensures.items in (
      inv.0 ∙ (ap (λ rest. c.loop-worker.yielded ++ rest) c.in-Some.ensures.steps.0 ∙ sym (append_assoc c.loop-worker.yielded (c.in-Some.worker ∷ []) _)),
      mapped_push (λ h. h.held.worker.pass) (λ w. w.value.pass) c.loop-worker.filled.items _ c.loop-worker.yielded c.of.result c.in-Some.worker items inv.1 (ap (λ w. w.pass) c.of.ensures.worker),
      subst (All (λ (h : PlannedHandle). h.full ≡ true)) (sym items) (All-push (λ (h : PlannedHandle). h.full ≡ true) c.loop-worker.filled.items c.of.result inv.2 c.of.ensures.full),
      search rules,
    )
