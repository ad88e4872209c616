use Rattle.std.proofs.Common.{◌≡◌, List, ℕ, length, Contains, subst, arith}
use Rattle.ready_work.specs.Rank.{lists_of}
use Rattle.task_ordering.specs.Befores.{AddsPairs, HasBoth}
use Rattle.task_ordering.proofs.Pairs.{tells_next, tells_all}
use Rattle.task_ordering.proofs.Reached.{names_below}
use Rattle.task_ordering.proofs.befores.befores_of.Goals as goal

pub add_all_before-requires-clause-firsts : goal.add_all_before-requires-clause-firsts
add_all_before-requires-clause-firsts c =
    names_below (length c.args.tasks.now) (length c.args.to_run.now) _ _ c.requires.size c.after_of.ensures (c.requires.named c.loop-task.task c.loop-task-test.true).after

pub add_all_before-requires-in-loop-task-clause-firsts : goal.add_all_before-requires-in-loop-task-clause-firsts
add_all_before-requires-in-loop-task-clause-firsts c =
    names_below (length c.args.tasks.now) (length c.args.to_run.now) _ _ c.requires.size c.must_after_of.ensures (c.requires.named c.loop-task.task c.loop-task-test.true).must_after

pub add_before_all-requires-clause-seconds : goal.add_before_all-requires-clause-seconds
add_before_all-requires-clause-seconds c =
    names_below (length c.args.tasks.now) (length c.args.to_run.now) _ _ c.requires.size c.finalizers_of.ensures (c.requires.named c.loop-task.task c.loop-task-test.true).finalized_by

pub loop-task-preserved : goal.loop-task-preserved
loop-task-preserved c =
    let k = c.loop-task.task in
    let to_run = c.args.to_run.now in
    let d = lists_of c.loop-task.befores.items in
    let d1 = lists_of c.add_all_before.new.befores.items in
    let d2 = lists_of c.add_all_before-in-loop-task.new.befores.items in
    let d3 = lists_of c.add_before_all.new.befores.items in
    tells_next c.args.tasks.now to_run k d d1 d2 d3 c.loop-task.invariant
    (subst (λ (names : List ℕ). AddsPairs d d1 (λ a b. HasBoth to_run a b × Contains names a × (b ≡ k))) c.after_of.ensures c.in_ok-add_all_before.ensures)
    (subst (λ (names : List ℕ). AddsPairs d1 d2 (λ a b. HasBoth to_run a b × Contains names a × (b ≡ k))) c.must_after_of.ensures c.in_ok-add_all_before-2.ensures)
    (subst (λ (names : List ℕ). AddsPairs d2 d3 (λ a b. HasBoth to_run a b × (a ≡ k) × Contains names b)) c.finalizers_of.ensures c.in_ok-add_before_all.ensures)

pub returns : goal.returns
returns c =
    tells_all c.args.tasks.now c.args.to_run.now c.loop-task.task (lists_of c.loop-task.befores.items) c.requires.size (omega (arith, c.loop-task-test.false)) c.loop-task.invariant
