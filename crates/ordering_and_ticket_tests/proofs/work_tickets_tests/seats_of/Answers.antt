use Rattle.std.proofs.Common.{◌≡◌, ◌∷◌, ◌++◌, ◌+◌, [], List, length, sym, ap, subst, arith, length-append}
use Rattle.std.specs.List.{All}
use Rattle.std.specs.Vec.Iter.{into_iter_items}
use Rattle.std.proofs.lemmas.List.Elements.{All-head, All-push, All-tail}
use Rattle.work_tickets.specs.TicketSeatView.{TicketSeatView}
use Rattle.ordering_and_ticket_tests.specs.declared.work_tickets_tests.Worker.{Worker}
use Rattle.ordering_and_ticket_tests.proofs.work_tickets_tests.seats_of.Goals as goal

longer : (A : Type 0) (xs ys : List A) (y : A) → ys ≡ xs ++ y ∷ [] → length ys ≡ length xs + 1
longer A xs ys y is = omega (arith, ap (λ (l : List A). length l) is, length-append xs (y ∷ []))

pub loop-seat-preserved : goal.loop-seat-preserved
loop-seat-preserved c =
    let inv = c.loop-seat.invariant in
    let queue = c.args.tickets.now.queue in
    let rest : List Worker = into_iter_items c.next.new.self in
    let of_seat : TicketSeatView → Type 0 = λ s. s.queue ≡ queue in
    let of_worker : Worker → Type 0 = λ w. w.seat.queue ≡ queue in
    let steps = c.in-Some.ensures.steps.0 in
    let items = c.in_ok-push.ensures.items in
    let left : All of_worker (_ ∷ rest) = subst (All of_worker) steps inv.rest in record {
      here = subst (All of_seat) (sym items) (All-push of_seat c.loop-seat.seats.items _ inv.here (All-head of_worker _ rest left));
      rest = All-tail of_worker _ rest left;
      count = omega (arith, longer TicketSeatView c.loop-seat.seats.items _ _ items, ap (λ (l : List Worker). length l) steps, inv.count);
    }
