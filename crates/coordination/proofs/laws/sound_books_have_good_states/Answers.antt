use Rattle.std.proofs.Common.{sym, subst}
use Rattle.resource_lock.proofs.lemmas.Runs.{worker_from}
use Rattle.lock_journal.specs.Own.{NamesWorkers}
use Rattle.lock_journal.proofs.lemmas.Named.{named}
use Rattle.worker_notes.proofs.lemmas.Entries.{belongs_sound, good_sound}
use Rattle.coordination.proofs.laws.sound_books_have_good_states.Goals as goal

pub returns-clause-good : goal.returns-clause-good
returns-clause-good c = good_sound

pub returns-clause-belongs : goal.returns-clause-belongs
returns-clause-belongs c = belongs_sound

pub returns-clause-workers : goal.returns-clause-workers
returns-clause-workers c = λ book sound. subst (NamesWorkers book.graph.workers) (sym sound.replays) (named book.graph book.history sound.lawful)

pub returns-clause-known : goal.returns-clause-known
returns-clause-known c = λ book w sound low. worker_from book.graph book.state w (belongs_sound book sound) low
