use Rattle.std.proofs.Common.{◌≡◌, List, ℕ, length, refl, subst, ◌∙◌, vec_len, Vec, Global}
use Rattle.task_ordering.specs.Reach.{Reaches}
use Rattle.task_ordering.specs.declared.reaching.Reach.{Reach}
use Rattle.task_ordering.proofs.Reached.{sound_begun, popped_below, sound_step, marks_reached, names_below, nothing_left}
use Rattle.task_ordering.proofs.reaching.tasks_to_run.Goals as goal

abbrev with_stack : Reach → Vec ℕ Global → Reach
with_stack s stack = record { marks = s.marks; stack = stack }

pub loop-task-init : goal.loop-task-init
loop-task-init c =
    sound_begun c.args.tasks.now c.args.asked.now (record { marks = c.in_ok-no_marks.field-0; stack = c.new.result }) c.reach_all.new.self
    c.in_ok-no_marks.ensures.size c.in_ok-no_marks.ensures.none c.new.ensures.items c.in_ok-reach_all.ensures

pub after_of-requires : goal.after_of-requires
after_of-requires c =
    let s = c.loop-task.reach in
    popped_below c.args.tasks.now c.args.asked.now s (with_stack s c.pop.new.self) s s c.in-Some.task c.loop-task.invariant refl c.in-Some.ensures.items

pub finalizers_of-requires : goal.finalizers_of-requires
finalizers_of-requires c =
    let s = c.loop-task.reach in
    popped_below c.args.tasks.now c.args.asked.now s (with_stack s c.pop.new.self) s s c.in-Some.task c.loop-task.invariant refl c.in-Some.ensures.items

pub reach_all-requires-in-Some : goal.reach_all-requires-in-Some
reach_all-requires-in-Some c =
    let s = c.loop-task.reach in
    let low = popped_below c.args.tasks.now c.args.asked.now s (with_stack s c.pop.new.self) s s c.in-Some.task c.loop-task.invariant refl c.in-Some.ensures.items in
    names_below (length c.args.tasks.now) (length s.marks.items) _ _ c.loop-task.invariant.size c.after_of.ensures (c.requires.lists c.in-Some.task low).after

pub reach_all-requires-in-Some-2 : goal.reach_all-requires-in-Some-2
reach_all-requires-in-Some-2 c =
    let s = c.loop-task.reach in
    let low = popped_below c.args.tasks.now c.args.asked.now s (with_stack s c.pop.new.self) s s c.in-Some.task c.loop-task.invariant refl c.in-Some.ensures.items in
    let size : length c.reach_all-in-Some.new.self.marks.items ≡ length c.args.tasks.now = c.in_ok-reach_all-2.ensures.size ∙ c.loop-task.invariant.size in
    names_below (length c.args.tasks.now) (length c.reach_all-in-Some.new.self.marks.items) _ _ size c.finalizers_of.ensures (c.requires.lists c.in-Some.task low).finalized_by

pub loop-task-preserved : goal.loop-task-preserved
loop-task-preserved c =
    let s = c.loop-task.reach in
    let s0 = with_stack s c.pop.new.self in
    let s1 = c.reach_all-in-Some.new.self in
    let s2 = c.reach_all-in-Some-2.new.self in
    sound_step c.args.tasks.now c.args.asked.now s s0 s1 s2 c.in-Some.task c.loop-task.invariant refl c.in-Some.ensures.items
    (subst (λ (names : List ℕ). Reaches s0 s1 names) c.after_of.ensures c.in_ok-reach_all-2.ensures) (subst (λ (names : List ℕ). Reaches s1 s2 names) c.finalizers_of.ensures c.in_ok-reach_all-3.ensures)

pub returns : goal.returns
returns c =
    marks_reached c.args.tasks.now c.args.asked.now c.loop-task.reach c.loop-task.invariant
    (nothing_left _ _ c.in_default.ensures.items (let l : vec_len c.loop-task.reach.stack ≡ 0 = c.in_default.ensures.cases.0 in rw l at c.in_default.ensures.rest))
