use Rattle.std.proofs.Common.{List, subst, sym}
use Rattle.worker_choices.specs.declared.stances.Stance.{Stance}
use Rattle.worker_notes.specs.Names.{is_queued_in, AreQuiet}
use Rattle.worker_notes.proofs.Sleeping.{quiet_after}
use Rattle.worker_notes.proofs.stances.Stances.wake_for.Goals as goal

pub returns-clause-quiet : goal.returns-clause-quiet
returns-clause-quiet c =
    subst (λ (xs : List Stance). AreQuiet c.args.book.now (is_queued_in c.args.queued c.args.book.now) xs) (sym c.note_woken.ensures)
    (quiet_after c.args.book.now (is_queued_in c.args.queued c.args.book.now) c.args.self.now c.whom_to_wake-woken.result c.whom_to_wake-woken.ensures)
