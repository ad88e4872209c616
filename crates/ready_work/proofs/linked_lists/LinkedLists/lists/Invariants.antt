-- the lists so far
use Rattle.std.proofs.Common.{◌≡◌, length, take}
use Rattle.ready_work.specs.LinkedLists.{lists_by}
use Rattle.resource_lock.specs.NumberLists.{AreEnds, lists_from}
use Rattle.ready_work.proofs.linked_lists.LinkedLists.lists.Given as goal

abbrev pub invariant-loop-first : goal.invariant-loop-first
invariant-loop-first l =
    (lists_from l.numbers.items 0 l.ends.items ≡ lists_by l.self-inside.links.items (take l.first-index l.self-inside.firsts.items))
    × AreEnds (length l.numbers.items) 0 l.ends.items
