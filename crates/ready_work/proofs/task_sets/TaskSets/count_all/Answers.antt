use Rattle.std.proofs.Common.{Bool, ℕ, List, length, sym, subst, ap, ◌∙◌, arith, not}
use Rattle.resource_lock.specs.Marks.{has_fallen, has_passed}
use Rattle.resource_lock.specs.StateView.{mark_of}
use Rattle.resource_lock.specs.declared.marks.MarkId.TheVariants.{Task as TaskOf}
use Rattle.ready_work.specs.DependencyCounts.{CanPut, PutsCount}
use Rattle.ready_work.proofs.Counting.{can_put}
use Rattle.ready_work.proofs.Opening.{counts_fewer, counts_next, counts_none}
use Rattle.ready_work.proofs.task_sets.TaskSets.count_all.Goals as goal

pub loop-task-init : goal.loop-task-init
loop-task-init c = counts_none c.args.graph.now c.args.state.now c.args.self.now c.requires.room c.requires.dependency_counts

pub overflow_cast-task : goal.overflow_cast-task
overflow_cast-task c = omega (arith, c.loop-task-test.true, c.len-task-end.ensures, c.requires.dependents.size, c.requires.fits.few_tasks)

pub put-requires : goal.put-requires
put-requires c =
    let is = c.loop-task.invariant in
    subst (λ (row : List ℕ). CanPut row c.loop-task.task c.loop-task.self.fallen) (sym c.at-row.ensures)
    (can_put c.args.graph.now c.args.dependents.now c.loop-task.task c.loop-task.self.fallen c.requires.fits c.requires.dependents is.fallen is.dependency_counts.fallen (omega (arith, c.loop-task-test.true, c.len-task-end.ensures, c.requires.dependents.size)))

pub put-requires-in-loop-task : goal.put-requires-in-loop-task
put-requires-in-loop-task c =
    let is = c.loop-task.invariant in
    subst (λ (row : List ℕ). CanPut row c.loop-task.task c.loop-task.self.unpassed) (sym c.at-row.ensures)
    (can_put c.args.graph.now c.args.dependents.now c.loop-task.task c.loop-task.self.unpassed c.requires.fits c.requires.dependents is.unpassed is.dependency_counts.unpassed (omega (arith, c.loop-task-test.true, c.len-task-end.ensures, c.requires.dependents.size)))

pub loop-task-preserved : goal.loop-task-preserved
loop-task-preserved c =
    let s = c.args.state.now in
    let task = c.loop-task.task in
    let now = c.loop-task.self in
    counts_next c.args.graph.now s c.args.dependents.now task c.args.self.now now c.put-in-loop-task.new.self c.put.new.self c.requires.dependents
    (subst (λ (row : List ℕ). PutsCount row task (has_fallen (mark_of s (TaskOf task))) now.fallen c.put.new.self) c.at-row.ensures
    (subst (λ (b : Bool). PutsCount c.at-row.result.now task b now.fallen c.put.new.self) (c.has_fallen.ensures ∙ ap has_fallen c.mark-mark.ensures) c.put.ensures.put))
    (subst (λ (row : List ℕ). PutsCount row task (not (has_passed (mark_of s (TaskOf task)))) now.unpassed c.put-in-loop-task.new.self) c.at-row.ensures
    (subst (λ (b : Bool). PutsCount c.at-row.result.now task (not b) now.unpassed c.put-in-loop-task.new.self) (c.has_passed.ensures ∙ ap has_passed c.mark-mark.ensures) c.put-in-loop-task.ensures.put))
    c.loop-task.invariant

pub returns : goal.returns
returns c = counts_fewer c.args.graph.now c.args.state.now (length c.args.graph.now.tasks) c.loop-task.task c.args.self.now c.loop-task.self (omega (arith, c.loop-task-test.false, c.len-task-end.ensures, c.requires.dependents.size)) c.loop-task.invariant
