use Rattle.std.proofs.Common.{◌≡◌, ◌∷◌, List, length, map, sym, ap, ◌∙◌, subst, arith}
use Rattle.std.specs.List.{All}
use Rattle.std.specs.Vec.Iter.{into_iter_items}
use Rattle.std.proofs.lemmas.List.{length-map}
use Rattle.std.proofs.lemmas.List.Elements.{All-head, All-tail}
use Rattle.work_tickets.specs.Together.{ComeTo}
use Rattle.work_tickets.specs.TicketSeatView.{TicketSeatView}
use Rattle.work_tickets.specs.TicketsView.{QueueId, TicketsView}
use Rattle.work_tickets.specs.declared.rule.PassView.{PassView}
use Rattle.work_tickets.specs.declared.rule.Sight.{Sight}
use Rattle.work_tickets.proofs.Together.{learns_end}
use Rattle.work_tickets.proofs.tickets.Tickets.finish.Goals as goal

pub join-pass-requires-clause-rest : goal.join-pass-requires-clause-rest
join-pass-requires-clause-rest c =
    let rest = into_iter_items c.next.new.self in
    let split = sym c.into_iter-rest.ensures.rest ∙ c.in-Some.ensures.cases.0 in
    let of_queue : TicketSeatView → Type 0 = λ s. s.queue ≡ c.args.self.queue in
    let others : All of_queue rest = All-tail of_queue c.in-Some.first rest (subst (All of_queue) split c.requires.queue) in
    λ k d within. ap (λ (q : QueueId). q.table) (others k d within) ∙ sym (ap (λ (t : TicketsView). t.queue.table) c.self.view_is)

pub learn_as-requires-clause-rule : goal.learn_as-requires-clause-rule
learn_as-requires-clause-rule c =
    let first : TicketSeatView = c.in-Some.first in
    let rest : List TicketSeatView = into_iter_items c.next.new.self in
    let sight_of_seat : TicketSeatView → Sight = λ s. s.sight in
    let split = sym c.into_iter-rest.ensures.rest ∙ c.in-Some.ensures.cases.0 in
    let of_queue : TicketSeatView → Type 0 = λ s. s.queue ≡ c.args.self.queue in
    let own = All-head of_queue first rest (subst (All of_queue) split c.requires.queue) in
    let seats : first.sight.seats ≡ c.args.self.queue.seats = sym c.join-pass.ensures.seats ∙ ap (λ (q : QueueId). q.seats) own in
    let long : length (first ∷ rest) ≡ c.args.self.queue.seats = sym (ap (λ (l : List TicketSeatView). length l) split) ∙ c.requires.all in
    let pass = c.join-pass.result in
    learns_end pass.id pass.me.0.client first.sight (map sight_of_seat rest) c.join-pass.ensures.view
    (omega (arith, seats, long, length-map rest sight_of_seat))

pub returns : goal.returns
returns c =
    let sight_of_seat : TicketSeatView → Sight = λ s. s.sight in
    let split = sym c.into_iter-rest.ensures.rest ∙ c.in-Some.ensures.cases.0 in
    let sights = ap (λ (u : PassView). u.sights) c.join-pass.ensures.view ∙ sym (ap (λ (l : List TicketSeatView). map sight_of_seat l) split) in
    subst ComeTo sights c.learn_as.ensures.rule.1
