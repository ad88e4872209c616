-- the passes of the workers so far, a seat with the others, and the parts of these
use Rattle.std.proofs.Common.{◌≡◌, ◌≤◌, ◌++◌, ◌+◌, ◌-◌, [], length, map, All}
use Rattle.std.specs.Prelude.{vec_capacity}
use Rattle.std.specs.Vec.Iter.{into_iter_items}
use Rattle.coordination.specs.Names.{ArePartsFrom, all_of, sights_from}
use Rattle.coordination.proofs.slots.Slot.seated.Given as goal

abbrev pub invariant-loop-part : goal.invariant-loop-part
invariant-loop-part g l =
    let ledger = l.self.table.shared.key.kept.value.ledger in
    let book = l.self.table.shared.key.kept.value.book in
    let n = length l.passes.items in
    let rest = into_iter_items l.part-iterator in record {
      same : l.seat.table_id ≡ l.initial.seat.table_id;
      view : l.seat.me ≡ (all_of ledger (sights_from n (book.graph.workers - n) book), []);
      row : map (λ p. p.sight) l.passes.items ++ sights_from n (book.graph.workers - n) book ≡ sights_from 0 book.graph.workers book;
      ids : All (λ p. p.service ≡ record { table = l.self.table.shared.table_id; ledger = ledger }) l.passes.items;
      count : n + length rest ≡ book.graph.workers;
      parts : ArePartsFrom n book rest;
      room : book.graph.workers ≤ vec_capacity l.passes;
    }
