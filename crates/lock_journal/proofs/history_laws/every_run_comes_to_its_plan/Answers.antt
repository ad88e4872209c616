-- Each is a lemma, for a graph that fits and where every mark has ended.
use Rattle.lock_journal.proofs.Ending.{ended_by_tasks}
use Rattle.lock_journal.proofs.lemmas.Fitting.{apart_of}
use Rattle.lock_journal.proofs.Order.{is_orderly}
use Rattle.lock_journal.proofs.Plan.{comes_to}
use Rattle.lock_journal.proofs.Runs.{holds_after}
use Rattle.lock_journal.proofs.Status.{all_passed_by_plan}
use Rattle.lock_journal.proofs.history_laws.every_run_comes_to_its_plan.Goals as goal

pub returns : goal.returns
returns c = record {
  ended = ended_by_tasks;
  plan = λ g h v rank n fits ranks deep lawful ended agrees. comes_to g h v rank n (apart_of g fits) ranks deep lawful (ended_by_tasks g h fits lawful ended) agrees;
  status = λ g h v rank n fits ranks deep lawful ended agrees.
      all_passed_by_plan g h v n (holds_after g h (apart_of g fits) lawful).kept.belongs.tasks
      (comes_to g h v rank n (apart_of g fits) ranks deep lawful (ended_by_tasks g h fits lawful ended) agrees);
  order = λ g h fits lawful ended. is_orderly g h (apart_of g fits) lawful (ended_by_tasks g h fits lawful ended);
}
