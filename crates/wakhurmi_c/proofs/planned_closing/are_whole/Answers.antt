use Rattle.std.proofs.Common.{◌≡◌, ◌≢◌, ◌⊎◌, ◌<◌, ◌≤◌, ◌+◌, ℕ, List, true, false, length, get_or, inl, inr, arith, sym, ap, ◌∙◌}
use Rattle.std.proofs.Math.Seq.{map-set_same}
use Rattle.std.proofs.lemmas.List.Elements.{All-set}
use Rattle.wakhurmi_c.specs.PlannedOpening.{AreWhole}
use Rattle.wakhurmi_c.specs.declared.planned_handles.PlannedHandle.{PlannedHandle}
use Rattle.wakhurmi_c.proofs.PlannedWhole.{FitSoFar, fits_more, number, one_differs, same_value, whole_at_end}
use Rattle.wakhurmi_c.proofs.planned_closing.are_whole.Goals.{then-worker-number, then-worker-number-via-then-worker-number, then-worker-number-via-else-worker-number+then-deref-count, else-worker-number+else-deref-count}
use Rattle.wakhurmi_c.proofs.planned_closing.are_whole.Goals as goal

pub loop-handle-preserved : goal.loop-handle-preserved
loop-handle-preserved c =
    let inv = c.loop-handle.invariant in
    let hs : List PlannedHandle = c.args.handles.now in
    let gs : List PlannedHandle = c.loop-handle.handles in
    let i : ℕ = c.loop-handle.handle-index in
    let item : PlannedHandle = c.handle-item.result in
    let low : i < length hs = omega (arith, c.loop-handle-test.true, c.loop-handle.auto.handles) in
    let is : c.take-worker.result.value ≡ (get_or hs i item).held.worker = c.take-worker.ensures.worker ∙ same_value (λ (h : PlannedHandle). h.held.worker) gs hs i item inv.2 in
    let numbered : c.worker.result.0 ≡ number (get_or hs i item) = ap (λ w. w.0) c.worker.ensures ∙ ap (λ w. w.pass.sight.worker.0) (c.deref.ensures ∙ is) in
    let whole = c.if-worker-number.whole in
    let rest : (whole ≡ true → FitSoFar hs (i + 1)) × (whole ≡ false → AreWhole hs → ⊥) =
    elim c.if-worker-number.branch [
      | then-worker-number w ↦
          let differs : (number (get_or hs i item) ≢ i) ⊎ ((get_or hs i item).held.worker.workers ≢ length hs) =
          elim w.then-worker-number.branch [
            | then-worker-number-via-then-worker-number w' ↦ inl (λ same. w'.if-worker-number.true (numbered ∙ (same ∙ sym inv.0)))
            | then-worker-number-via-else-worker-number+then-deref-count w' ↦ inr (λ same. w'.if-deref-count.true (ap (λ w. w.workers) (w'.deref-else-worker-number.ensures ∙ is) ∙ same))
          ] in
          ((λ yes. let not : true ≡ false = sym yes ∙ w.whole-is in absurd (cc)), (λ _. one_differs hs i item low differs))
      | else-worker-number+else-deref-count w ↦
          ((λ yes. fits_more hs i item low (inv.3 (sym w.whole-is ∙ yes)) (sym numbered ∙ (w.if-worker-number.false ∙ inv.0)) (sym (ap (λ w. w.workers) (w.deref-else-worker-number.ensures ∙ is)) ∙ w.if-deref-count.false)), (λ no. inv.4 (sym w.whole-is ∙ no)))
    ] in (
      ap (λ n. n + 1) inv.0,
      All-set (λ (h : PlannedHandle). h.full ≡ true) gs i c.of.result c.of.ensures.full inv.1,
      map-set_same (λ (h : PlannedHandle). h.held.worker) gs i c.of.result item (c.of.ensures.worker ∙ c.take-worker.ensures.worker) ∙ inv.2,
      rest.0,
      rest.1,
    )

pub returns-clause-are : goal.returns-clause-are
returns-clause-are c = λ yes.
    let end : length c.args.handles.now ≤ c.loop-handle.handle-index = omega (arith, c.loop-handle-test.false, c.loop-handle.auto.handles) in
    whole_at_end c.args.handles.now c.loop-handle.handle-index end (c.loop-handle.invariant.3 yes)
