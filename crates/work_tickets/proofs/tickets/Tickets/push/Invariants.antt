-- the queue's own capacity
use Rattle.work_tickets.proofs.tickets.Tickets.push.Given as goal

abbrev pub ghosts-push_within : goal.ghosts-push_within
ghosts-push_within g a = record { capacity = a.queue.now.cap }
