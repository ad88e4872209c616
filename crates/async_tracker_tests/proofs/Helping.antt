-- A worker that shows the same can help as before, and one that resumed can end the task.
use Rattle.std.proofs.Common.{◌≡◌, List, [], ◌∷◌, arith, refl, sym, ap, ◌∙◌, subst}
use Rattle.std.specs.Prelude.{Contains}
use Rattle.std.specs.List.{list_any}
use Rattle.lock_journal.specs.Names.{Retention, LockId, MarkId, TaskOf, ActionOf, mark_before, without_member, is_action, is_unit}
use Rattle.coordination.specs.Shown.{ShowsTheSame, claimed_shown}
use Rattle.coordination.specs.declared.rule.Sight.{Sight}
use Rattle.async_tracker.specs.ParkedView.{ParkedView}
use Rattle.async_tracker.specs.Shows.{ShowsResumed}
use Rattle.async_tracker.proofs.lemmas.Turns.{parked_still}
use Rattle.single_steps.proofs.lemmas.Turns.{free_still, waits_still}
use Rattle.async_tracker_tests.specs.TwoItems.{CanEnd, CanHelp, HasTwoItems}

pub helps_still : {old new : Sight} (p : ParkedView) → ShowsTheSame old new → CanHelp old p → CanHelp new p
helps_still p same helps = record {
  graph = subst HasTwoItems (sym same.graph) helps.graph;
  action = helps.action;
  claimed = same.claimed ∙ helps.claimed;
  own = parked_still p same helps.own;
  free = free_still same helps.free;
  waits = waits_still same helps.waits;
}

pub can_end : {old new : Sight} (p : ParkedView) (r : Retention) (l : LockId) → ShowsResumed r l p.action old new → CanHelp old p → CanEnd new
can_end {old} {new} p r l resumed helps = record {
  graph = subst HasTwoItems (sym resumed.graph) helps.graph;
  may = record {
    task = subst (λ (ms : List MarkId). Contains ms (TaskOf 0)) (sym marks) (0, omega arith, refl);
    actions = ap (list_any is_action) marks;
    units = ap (list_any is_unit) marks;
    blocked = resumed.blocked ∙ helps.free.blocked;
  };
}
  where
    marks : claimed_shown new ≡ TaskOf 0 ∷ []
    marks = resumed.claimed ∙ (λ i. without_member mark_before (ActionOf (helps.action i)) (helps.claimed i))
