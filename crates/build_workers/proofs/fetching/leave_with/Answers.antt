use Rattle.std.proofs.Common.{Some, ap, subst, ◌∙◌, Err}
use Rattle.lock_journal.specs.Names.{Unblock, IsFixedList}
use Rattle.coordination.specs.Calls.{HasFinished}
use Rattle.blocking_section.specs.Sections.{closed_with}
use Rattle.build_workers.proofs.Keeping.{finished_closes, looked_closes, stopped_closes}
use Rattle.build_workers.proofs.lemmas.Results.{of_ok}
use Rattle.build_workers.proofs.fetching.leave_with.Goals as goal

pub returns-in-Ok-clause-closed : goal.returns-in-Ok-clause-closed
returns-in-Ok-clause-closed g c =
    let old = c.args.pass.now.sight in
    let new = c.leave.new.pass.sight in
    finished_closes (subst (λ u. HasFinished (Unblock (closed_with u (Some c.args.closed.outcome))) (IsFixedList (Unblock (closed_with u (Some c.args.closed.outcome)))) old new) c.requires.unit (of_ok c.leave.result c.in-Ok.field-0 c.in-Ok.is c.leave.ensures.entry))

pub returns-in-Err-NoMemory-clause-still : goal.returns-in-Err-NoMemory-clause-still
returns-in-Err-NoMemory-clause-still g c = looked_closes (c.leave.ensures.no_memory c.in-Err-NoMemory.field-0-0 (c.in-Err-NoMemory.is ∙ ap Err c.in-Err-NoMemory.field-0-is)).1

pub returns-clause-still : goal.returns-clause-still
returns-clause-still g c = stopped_closes (c.leave.ensures.stopped c.in-Err-Stopped.field-0-0 c.in-Err-Stopped.by (c.in-Err-Stopped.is ∙ ap Err c.in-Err-Stopped.field-0-is)).1
