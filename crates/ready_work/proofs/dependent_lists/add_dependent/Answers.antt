use Rattle.std.proofs.Common.{◌≡◌, ◌<◌, length, get_or, ◌∙◌, take}
use Rattle.std.proofs.lemmas.List.{length-map, take_more}
use Rattle.ready_work.specs.Rank.{lists_of}
use Rattle.ready_work.proofs.DependentLists.{adds_next}
use Rattle.ready_work.proofs.dependent_lists.add_dependent.Goals as goal

pub loop-name-preserved : goal.loop-name-preserved
loop-name-preserved c =
    let a = c.loop-name.invariant in
    let names = c.args.names.now in
    let i = c.loop-name.name-index in
    let now = lists_of c.loop-name.dependents.items in
    let first : length (lists_of c.args.dependents.now.items) ≡ length c.args.dependents.now.items = length-map c.args.dependents.now.items (λ row. row.items) in
    let lt : get_or names i 0 < length now = rw (a.size ∙ first) (c.requires i c.loop-name-test.true) in
    let next = adds_next (lists_of c.args.dependents.now.items) now (take i names) (get_or names i 0) c.args.task lt a in
    rw (take_more names i 0 c.loop-name-test.true, c.in_ok-push_at.ensures) next
