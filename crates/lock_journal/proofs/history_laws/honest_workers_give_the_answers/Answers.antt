-- Worker by worker.
use Rattle.lock_journal.proofs.Honest.{answers_agree, honest_by_workers}
use Rattle.lock_journal.proofs.history_laws.honest_workers_give_the_answers.Goals as goal

pub returns : goal.returns
returns c = λ value h f. answers_agree value h (honest_by_workers value h f)
