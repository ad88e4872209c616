use Rattle.std.proofs.Common.{subst, List, ℕ, length, arith}
use Rattle.ready_work.specs.Rank.{lists_of}
use Rattle.ready_work.specs.DependentLists.{AddsDependent}
use Rattle.ready_work.proofs.DependentLists.{lists_all, lists_next}
use Rattle.ready_work.proofs.dependent_lists.dependents_of.Goals as goal

pub loop-task-preserved : goal.loop-task-preserved
loop-task-preserved c =
    let d = lists_of c.args.rows.now in
    let new = lists_of c.add_dependent.new.dependents.items in
    lists_next d (lists_of c.loop-task.dependents.items) new c.loop-task.task c.loop-task.invariant
    (subst (λ (names : List ℕ). AddsDependent (lists_of c.loop-task.dependents.items) new names c.loop-task.task) c.names_of.ensures c.in_ok-add_dependent.ensures)

pub returns : goal.returns
returns c = lists_all (lists_of c.args.rows.now) (lists_of c.loop-task.dependents.items) c.loop-task.task (length c.args.rows.now) (omega (arith, c.loop-task.auto.task-end)) (omega (arith, c.loop-task-test.false)) c.loop-task.invariant
