use Rattle.std.proofs.Common.{◌≡◌, ◌++◌, List, refl, ap, ◌∙◌, subst}
use Rattle.work_tickets.specs.TicketSeatView.{TicketSeatView}
use Rattle.work_tickets.proofs.Seating.{joins}
use Rattle.work_tickets.proofs.Totals.{all_among}
use Rattle.work_tickets.proofs.tickets.join.Goals as goal

pub absorb-requires-clause-queue : goal.absorb-requires-clause-queue
absorb-requires-clause-queue c =
    let inv = c.loop-seat.invariant in
    let split = inv.rest ∙ ap (λ (rest : List TicketSeatView). c.loop-seat.yielded ++ rest) c.in-Some.ensures.steps.0 in
    let of_queue = all_among (λ s. s.queue.table ≡ c.args.queue.now.table.shared.table_id) _ _ c.loop-seat.yielded c.in-Some.seat split c.requires.rest in
    (inv.own, (ap (λ (s : TicketSeatView). s.queue.table) c.seat.view_is ∙ of_queue, c.seat.invariant.empty))

pub absorb-requires-clause-rule : goal.absorb-requires-clause-rule
absorb-requires-clause-rule c =
    let pass = c.loop-seat.pass in
    let other = c.seat.inside.pass in
    joins pass.id pass.me.0.client other.id other.me.0.client c.seat.invariant.lone

pub returns-clause-seats : goal.returns-clause-seats
returns-clause-seats c = subst (λ (s : TicketSeatView). s.queue.seats ≡ s.sight.seats) c.first.view_is refl
