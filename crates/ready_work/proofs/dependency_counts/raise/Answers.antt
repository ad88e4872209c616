use Rattle.std.proofs.Common.{◌≡◌, ◌<◌, length, get_or, subst, ℕ, List, ◌∙◌, arith}
use Rattle.std.proofs.lemmas.List.{get_or_default, take_all}
use Rattle.ready_work.proofs.Counting.{Raised, raised_next, times_before}
use Rattle.ready_work.proofs.dependency_counts.raise.Goals as goal

pub overflow_add-index_mut : goal.overflow_add-index_mut
overflow_add-index_mut c =
    let task = get_or c.args.tasks.now c.loop-task.task-index 0 in
    let within : task < length c.args.counts.now.items = c.requires.in_range c.loop-task.task-index 0 c.loop-task-test.true in
    let read : c.index_mut.result.now ≡ get_or c.loop-task.counts.items task 0 = c.index_mut.ensures.value ∙ get_or_default c.loop-task.counts.items task _ 0 (omega (arith, within, c.loop-task.invariant.size)) in
    omega (arith, read, c.loop-task.invariant.each task, times_before c.args.tasks.now c.loop-task.task-index c.loop-task-test.true, c.requires.few task)

pub loop-task-preserved : goal.loop-task-preserved
loop-task-preserved c =
    let task = get_or c.args.tasks.now c.loop-task.task-index 0 in
    let within : task < length c.args.counts.now.items = c.requires.in_range c.loop-task.task-index 0 c.loop-task-test.true in
    let read : c.index_mut.result.now ≡ get_or c.loop-task.counts.items task 0 = c.index_mut.ensures.value ∙ get_or_default c.loop-task.counts.items task _ 0 (omega (arith, within, c.loop-task.invariant.size)) in
    raised_next c.args.tasks.now c.args.counts.now.items c.loop-task.counts.items c.loop-task.task-index _ c.loop-task-test.true within (omega (arith, read)) c.loop-task.invariant

pub returns-clause-each : goal.returns-clause-each
returns-clause-each c = let is : Raised c.args.tasks.now c.args.counts.now.items c.loop-task.counts.items = subst (λ (tasks : List ℕ). Raised tasks c.args.counts.now.items c.loop-task.counts.items) (take_all c.loop-task.task-index c.args.tasks.now (omega (arith, c.loop-task-test.false))) c.loop-task.invariant in is.each
