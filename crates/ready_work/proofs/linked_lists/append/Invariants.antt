-- what is left of the list comes behind what was put
use Rattle.std.proofs.Common.{◌≡◌, ◌≤◌, ◌++◌, length}
use Rattle.ready_work.specs.LinkedLists.{list_from}
use Rattle.ready_work.proofs.linked_lists.append.Given as goal

abbrev pub decreases-loop-next : goal.decreases-loop-next
decreases-loop-next l = l.next

abbrev pub invariant-loop-next : goal.invariant-loop-next
invariant-loop-next l =
    (l.next ≤ length l.links)
    × (l.numbers.items ++ list_from l.links l.next ≡ l.initial.numbers.items ++ list_from l.links l.first)
