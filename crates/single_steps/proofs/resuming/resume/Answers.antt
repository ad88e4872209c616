use Rattle.std.proofs.Common.{rules, Err, ap, ◌∙◌}
use Rattle.coordination.proofs.lemmas.Shown.{stopped_shows}
use Rattle.async_tracker.proofs.lemmas.Resumed.{resumed_shows}
use Rattle.single_steps.proofs.lemmas.After.{from_ok}
use Rattle.single_steps.proofs.lemmas.Turns.{answered_then, finished_then, stopped_then}
use Rattle.single_steps.proofs.resuming.resume.Goals as goal

pub returns-in-Ok-clause-entry : goal.returns-in-Ok-clause-entry
returns-in-Ok-clause-entry g c = finished_then c.ask_first_open.ensures.answered (from_ok c.go_on.result c.in-Ok.field-0 c.in-Ok.is c.go_on.ensures.entry)

pub returns-in-Ok-clause-shows : goal.returns-in-Ok-clause-shows
returns-in-Ok-clause-shows g c = resumed_shows c.requires.free.lease (finished_then c.ask_first_open.ensures.answered (from_ok c.go_on.result c.in-Ok.field-0 c.in-Ok.is c.go_on.ensures.entry))

pub returns-in-Err-NoMemory-clause-no_memory : goal.returns-in-Err-NoMemory-clause-no_memory
returns-in-Err-NoMemory-clause-no_memory g c = λ p is.
    (search rules, answered_then c.ask_first_open.ensures.answered (c.go_on.ensures.no_memory (c.in-Err-NoMemory.is ∙ ap Err c.in-Err-NoMemory.field-0-is)))

pub returns-in-Err-Stopped-clause-kept : goal.returns-in-Err-Stopped-clause-kept
returns-in-Err-Stopped-clause-kept g c = stopped_shows (stopped_then c.ask_first_open.ensures.answered (c.go_on.ensures.stopped c.in-Err-Stopped.by (c.in-Err-Stopped.is ∙ ap Err c.in-Err-Stopped.field-0-is)))

pub returns-in-Err-Stopped-clause-stopped : goal.returns-in-Err-Stopped-clause-stopped
returns-in-Err-Stopped-clause-stopped g c = λ p by is.
    (search rules, stopped_then c.ask_first_open.ensures.answered (c.go_on.ensures.stopped by (search rules)))
