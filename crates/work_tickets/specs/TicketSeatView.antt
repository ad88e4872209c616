-- A seat, as contracts see it.
use Rattle.std.specs.Prelude.{◌≡◌, ℕ, []}
use Rattle.crossbeam_queue.specs.Passes.{Pass, view}
use Rattle.work_tickets.specs.declared.rule.Sight.{Sight}
use Rattle.work_tickets.specs.declared.rule.PassView.{PassView}
use Rattle.work_tickets.specs.Sights.{one, sight_of}
use Rattle.work_tickets.specs.TicketsView.{QueueId}

-- which queue it is of, and what it has seen and done
pub record TicketSeatView : Type 0 where
  pub queue : QueueId
  pub sight : Sight

-- the pass of a seat, which holds nothing
pub record IsSeat (pass : Pass ℕ PassView) : Type 0 where
  pub lone : view pass ≡ one (sight_of (view pass))
  pub empty : pass.me.1 ≡ []
