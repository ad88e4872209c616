use Rattle.std.proofs.Common.{◌≡◌, List, ℕ, length, sym, subst, vec_len}
use Rattle.std.proofs.lemmas.List.{length-map}
use Rattle.ready_work.specs.Rank.{lists_of}
use Rattle.ready_work.specs.Search.{WaitOrListed}
use Rattle.ready_work.proofs.Popping.{nothing_left, with_stack, popped_sound, popped_waits, dependents_low, finished}
use Rattle.ready_work.proofs.cycles.ranked_marks.Goals as goal

pub look_at_listed-requires-clause-tasks : goal.look_at_listed-requires-clause-tasks
look_at_listed-requires-clause-tasks c = λ k lt.
    let size : length c.args.rows.now ≡ length (lists_of c.args.rows.now) = sym (length-map c.args.rows.now (λ row. row.items)) in
    let e = rw c.as_slice.ensures.value at c.dependents_at.ensures in
    rw e (dependents_low (lists_of c.args.rows.now) (lists_of c.in_ok-dependents.dependents.items) (length c.args.rows.now) c.in-Some.popped k size c.in_ok-dependents.ensures (rw e at lt))

pub look_at_listed-requires-clause-sound : goal.look_at_listed-requires-clause-sound
look_at_listed-requires-clause-sound c = popped_sound (lists_of c.args.rows.now) c.loop-popped.search c.pop.new.self c.in-Some.popped c.in-Some.ensures.items c.loop-popped.invariant.0

pub look_at_listed-requires-clause-waits : goal.look_at_listed-requires-clause-waits
look_at_listed-requires-clause-waits c =
    let size : length c.args.rows.now ≡ length (lists_of c.args.rows.now) = sym (length-map c.args.rows.now (λ row. row.items)) in
    let e = rw c.as_slice.ensures.value at c.dependents_at.ensures in
    subst (λ (list : List ℕ). WaitOrListed (lists_of c.args.rows.now) (with_stack c.loop-popped.search c.pop.new.self) c.in-Some.popped list) (sym e)
    (popped_waits (lists_of c.args.rows.now) c.loop-popped.search c.pop.new.self c.in-Some.popped c.in-Some.ensures.items (lists_of c.in_ok-dependents.dependents.items) (length c.args.rows.now) size c.in_ok-dependents.ensures c.loop-popped.invariant.1)

pub returns : goal.returns
returns c =
    let size : length c.args.rows.now ≡ length (lists_of c.args.rows.now) = sym (length-map c.args.rows.now (λ row. row.items)) in
    finished (lists_of c.args.rows.now) c.loop-popped.search (length c.args.rows.now) size c.requires c.loop-popped.invariant.0 c.loop-popped.invariant.1
    (nothing_left _ _ c.in_default.ensures.items (let l : vec_len c.loop-popped.search.stack ≡ 0 = c.in_default.ensures.cases.0 in rw l at c.in_default.ensures.rest))
