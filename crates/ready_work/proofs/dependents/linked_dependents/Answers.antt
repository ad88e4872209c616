use Rattle.std.proofs.Common.{◌≡◌, ◌<◌, ℕ, List, length, get_or, sym, ap, ◌∙◌, subst, arith}
use Rattle.std.specs.List.{All}
use Rattle.resource_lock.specs.GraphView.{GraphTaskView, no_task}
use Rattle.ready_work.specs.Rank.{Dependencies, after}
use Rattle.ready_work.specs.DependentLists.{AddsDependent}
use Rattle.ready_work.proofs.AfterLists.{after_in, after_small, afters_in, size_of}
use Rattle.ready_work.proofs.DependentLists.{lists_all, lists_next}
use Rattle.ready_work.proofs.dependents.linked_dependents.Goals as goal

-- the names that were read are those that the task comes after
names_are : (ts tasks : List GraphTaskView) (t : ℕ) → ts ≡ tasks → (get_or ts t no_task).after ≡ after (afters_in tasks) t
names_are ts tasks t are = ap (λ (all : List GraphTaskView). (get_or all t no_task).after) are ∙ sym (after_in tasks t)

pub note_dependent-requires : goal.note_dependent-requires
note_dependent-requires c =
    let long : length c.loop-task.dependents ≡ length c.args.graph.now.tasks = c.loop-task.invariant.size ∙ size_of c.args.graph.now in
    let names = c.after.ensures ∙ names_are c.tasks-tasks.result.now c.args.graph.now.tasks c.loop-task.task c.tasks-tasks.ensures.value in
    subst (λ (ns : List ℕ). All (λ n. n < length c.loop-task.dependents) ns) (sym names)
    (subst (λ m. All (λ n. n < m) (after (afters_in c.args.graph.now.tasks) c.loop-task.task)) (sym long)
    (after_small c.args.graph.now c.loop-task.task c.tasks-tasks.ensures.fits))

pub loop-task-preserved : goal.loop-task-preserved
loop-task-preserved c =
    let new : Dependencies = c.note_dependent.new.dependents in
    let names = c.after.ensures ∙ names_are c.tasks-tasks.result.now c.args.graph.now.tasks c.loop-task.task c.tasks-tasks.ensures.value in
    lists_next (afters_in c.args.graph.now.tasks) c.loop-task.dependents new c.loop-task.task c.loop-task.invariant
    (subst (λ (ns : List ℕ). AddsDependent c.loop-task.dependents new ns c.loop-task.task) names c.in_ok-note_dependent.ensures)

pub returns : goal.returns
returns c =
    let long = ap (λ (ts : List GraphTaskView). length ts) c.tasks-tasks.ensures.value in
    lists_all (afters_in c.args.graph.now.tasks) c.loop-task.dependents c.loop-task.task (length c.args.graph.now.tasks)
    (omega (arith, c.loop-task.auto.task-end, long)) (omega (arith, c.loop-task-test.false, long)) c.loop-task.invariant
