use Rattle.std.proofs.Common.{◌≡◌, ◌<◌, List, ℕ, not, length, subst, sym, ap, arith}
use Rattle.std.specs.List.{All}
use Rattle.std.specs.Prelude.{count_by}
use Rattle.std.proofs.lemmas.List.{length-map}
use Rattle.ready_work.specs.Rank.{lists_of}
use Rattle.task_ordering.specs.Marks.{IsMarked}
use Rattle.task_ordering.specs.Placing.{AreSettledOrListed, unplaced_count}
use Rattle.task_ordering.proofs.Settling.{in_range}
use Rattle.task_ordering.proofs.Steps.{sound_fresh, sound_placed, fewer_unplaced, listed_placed, dependents_run, all_placed}
use Rattle.task_ordering.proofs.placing.Placing.of.Goals as goal

pub dependents_of-requires : goal.dependents_of-requires
dependents_of-requires c = in_range c.args.to_run.now (lists_of c.args.befores.now) c.requires.are

pub look_at_all-requires-clause-sound : goal.look_at_all-requires-clause-sound
look_at_all-requires-clause-sound c =
    let made = c.in_ok-placing.ensures in
    sound_fresh c.args.to_run.now (lists_of c.args.befores.now) c.in_ok-placing.placing (length c.args.befores.now) (sym (length-map c.args.befores.now (λ row. row.items)))
    made.marks made.places made.room made.order made.unplaced made.first made.empty

pub look_at_listed-requires-clause-tasks : goal.look_at_listed-requires-clause-tasks
look_at_listed-requires-clause-tasks c =
    let size : length c.args.befores.now ≡ length (lists_of c.args.befores.now) = sym (length-map c.args.befores.now (λ row. row.items)) in
    let e = rw c.deref.ensures.value at c.dependents_at.ensures in
    subst (λ (list : List ℕ). All (IsMarked c.args.to_run.now) list) (sym e)
    (dependents_run c.args.to_run.now (lists_of c.args.befores.now) c.requires.are c.loop-task.placing c.loop-task.invariant.sound (length c.args.befores.now) size c.loop-task.invariant.settled
    c.in-Some.task c.in-Some.ensures.some c.place.new.self c.in_ok-place.ensures (lists_of c.in_ok-dependents.dependents.items) c.in_ok-dependents.ensures)

pub look_at_listed-requires-clause-sound : goal.look_at_listed-requires-clause-sound
look_at_listed-requires-clause-sound c =
    let size : length c.args.befores.now ≡ length (lists_of c.args.befores.now) = sym (length-map c.args.befores.now (λ row. row.items)) in
    sound_placed c.args.to_run.now (lists_of c.args.befores.now) c.requires.are c.loop-task.placing c.loop-task.invariant.sound (length c.args.befores.now) size c.loop-task.invariant.settled
    c.in-Some.task c.in-Some.ensures.some c.place.new.self c.in_ok-place.ensures

pub look_at_listed-requires-clause-settled : goal.look_at_listed-requires-clause-settled
look_at_listed-requires-clause-settled c =
    let size : length c.args.befores.now ≡ length (lists_of c.args.befores.now) = sym (length-map c.args.befores.now (λ row. row.items)) in
    let e = rw c.deref.ensures.value at c.dependents_at.ensures in
    subst (λ (list : List ℕ). AreSettledOrListed c.args.to_run.now (lists_of c.args.befores.now) c.place.new.self list) (sym e)
    (listed_placed c.args.to_run.now (lists_of c.args.befores.now) c.requires.are c.loop-task.placing c.loop-task.invariant.sound (length c.args.befores.now) size c.loop-task.invariant.settled
    c.in-Some.task c.in-Some.ensures.some c.place.new.self c.in_ok-place.ensures (lists_of c.in_ok-dependents.dependents.items) c.in_ok-dependents.ensures)

pub loop-task-smaller : goal.loop-task-smaller
loop-task-smaller c =
    let size : length c.args.befores.now ≡ length (lists_of c.args.befores.now) = sym (length-map c.args.befores.now (λ row. row.items)) in
    let same : unplaced_count c.look_at_listed.new.self ≡ unplaced_count c.place.new.self = ap (count_by not) c.look_at_listed.ensures.placed in
    let less : unplaced_count c.place.new.self < unplaced_count c.loop-task.placing =
    fewer_unplaced c.args.to_run.now (lists_of c.args.befores.now) c.requires.are c.loop-task.placing c.loop-task.invariant.sound (length c.args.befores.now) size c.loop-task.invariant.settled
    c.in-Some.task c.in-Some.ensures.some c.place.new.self c.in_ok-place.ensures in
    let all : unplaced_count c.look_at_listed.new.self < unplaced_count c.loop-task.placing = omega (arith, same, less) in
    all

pub returns : goal.returns
returns c =
    let size : length c.args.befores.now ≡ length (lists_of c.args.befores.now) = sym (length-map c.args.befores.now (λ row. row.items)) in
    all_placed c.args.to_run.now (lists_of c.args.befores.now) c.requires.are c.loop-task.placing c.loop-task.invariant.sound (length c.args.befores.now) size c.loop-task.invariant.settled c.in_default.ensures.none
