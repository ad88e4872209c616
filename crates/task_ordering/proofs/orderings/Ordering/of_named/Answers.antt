use Rattle.std.proofs.Common.{◌≡◌, ℕ, subst, List, Bool, Vec, Global}
use Rattle.ready_work.specs.Rank.{lists_of}
use Rattle.task_ordering.specs.Befores.{TellsBefore}
use Rattle.task_ordering.specs.Placed.{AreAllPlaced}
use Rattle.task_ordering.proofs.Same.{are_befores, befores_are, accepted, least, unranked}
use Rattle.task_ordering.proofs.Settling.{in_range}
use Rattle.task_ordering.proofs.orderings.Ordering.of_named.Goals as goal

-- the same over what was read
placed_as : (marks to_run : List Bool) (rows befores : List (Vec ℕ Global)) (placed : List Bool) (xs : List ℕ) → marks ≡ to_run → rows ≡ befores → AreAllPlaced marks (lists_of rows) placed xs → AreAllPlaced to_run (lists_of befores) placed xs
placed_as marks to_run rows befores placed xs is_marks is_rows all =
    subst (λ (m : List Bool). AreAllPlaced m (lists_of befores) placed xs) is_marks (subst (λ (r : List (Vec ℕ Global)). AreAllPlaced marks (lists_of r) placed xs) is_rows all)

pub of-requires-clause-are : goal.of-requires-clause-are
of-requires-clause-are c =
    let d = lists_of c.in_ok-befores.befores.items in
    let tells = subst (λ (marks : List Bool). TellsBefore c.args.tasks.now marks d) c.deref.ensures.value c.in_ok-befores.ensures in
    rw (c.deref-2.ensures.value) (rw (c.deref-3.ensures.value) (are_befores c.args.tasks.now c.args.asked.now c.in_ok-to_run.to_run.items d c.requires c.in_ok-to_run.ensures tells))

pub invariant_of-result : goal.invariant_of-result
invariant_of-result c =
    let d = lists_of c.in_ok-befores.befores.items in
    let tells = subst (λ (marks : List Bool). TellsBefore c.args.tasks.now marks d) c.deref.ensures.value c.in_ok-befores.ensures in
    in_range c.in_ok-to_run.to_run.items d (are_befores c.args.tasks.now c.args.asked.now c.in_ok-to_run.to_run.items d c.requires c.in_ok-to_run.ensures tells)

pub returns-in-Some-clause-refused : goal.returns-in-Some-clause-refused
returns-in-Some-clause-refused c =
    let d = lists_of c.in_ok-befores.befores.items in
    let tells = subst (λ (marks : List Bool). TellsBefore c.args.tasks.now marks d) c.deref.ensures.value c.in_ok-befores.ensures in
    let all =
    placed_as c.deref-3.result.now c.in_ok-to_run.to_run.items c.deref-2.result.now c.in_ok-befores.befores.items c.in_ok-placed.field-0.placed.items c.in_ok-placed.field-0.order.items
    c.deref-3.ensures.value c.deref-2.ensures.value c.in_ok-placed.ensures in
    let first = rw (c.deref-5.ensures.value) at (rw (c.deref-4.ensures.value) at c.in-Some.ensures.some) in
    (c.requires, unranked c.args.tasks.now c.args.asked.now c.in_ok-to_run.to_run.items d c.requires c.in_ok-to_run.ensures tells c.in_ok-placed.field-0.placed.items c.in_ok-placed.field-0.order.items all c.in-Some.task first)

pub returns-clause-accepted : goal.returns-clause-accepted
returns-clause-accepted c =
    let d = lists_of c.in_ok-befores.befores.items in
    let tells = subst (λ (marks : List Bool). TellsBefore c.args.tasks.now marks d) c.deref.ensures.value c.in_ok-befores.ensures in
    let all =
    placed_as c.deref-3.result.now c.in_ok-to_run.to_run.items c.deref-2.result.now c.in_ok-befores.befores.items c.in_ok-placed.field-0.placed.items c.in_ok-placed.field-0.order.items
    c.deref-3.ensures.value c.deref-2.ensures.value c.in_ok-placed.ensures in
    let each = rw (c.deref-5.ensures.value) at (rw (c.deref-4.ensures.value) at c.in-None.ensures.none) in
    accepted c.args.tasks.now c.args.asked.now c.in_ok-to_run.to_run.items d c.requires c.in_ok-to_run.ensures tells c.in_ok-placed.field-0.placed.items c.in_ok-placed.field-0.order.items all each

pub returns-clause-order : goal.returns-clause-order
returns-clause-order c =
    let d = lists_of c.in_ok-befores.befores.items in
    let tells = subst (λ (marks : List Bool). TellsBefore c.args.tasks.now marks d) c.deref.ensures.value c.in_ok-befores.ensures in
    let all =
    placed_as c.deref-3.result.now c.in_ok-to_run.to_run.items c.deref-2.result.now c.in_ok-befores.befores.items c.in_ok-placed.field-0.placed.items c.in_ok-placed.field-0.order.items
    c.deref-3.ensures.value c.deref-2.ensures.value c.in_ok-placed.ensures in
    let each = rw (c.deref-5.ensures.value) at (rw (c.deref-4.ensures.value) at c.in-None.ensures.none) in
    least c.args.tasks.now c.args.asked.now c.in_ok-to_run.to_run.items d c.requires c.in_ok-to_run.ensures tells c.in_ok-placed.field-0.placed.items c.in_ok-placed.field-0.order.items all each

pub returns-clause-befores : goal.returns-clause-befores
returns-clause-befores c =
    let d = lists_of c.in_ok-befores.befores.items in
    let tells = subst (λ (marks : List Bool). TellsBefore c.args.tasks.now marks d) c.deref.ensures.value c.in_ok-befores.ensures in
    befores_are c.args.tasks.now c.args.asked.now c.in_ok-to_run.to_run.items d c.requires c.in_ok-to_run.ensures tells
