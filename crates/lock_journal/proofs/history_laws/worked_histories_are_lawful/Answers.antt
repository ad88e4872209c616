-- Each entry is read by computing.
use Rattle.lock_journal.proofs.WorkedRows.{first_run_is, run_that_reacquires_is, run_that_releases_is, run_that_fetches_is, run_that_fails_is, locks_by_turns_lawful, first_run_of_all_is, all_by_turns_lawful}
use Rattle.lock_journal.proofs.history_laws.worked_histories_are_lawful.Goals as goal

pub returns : goal.returns
returns c = record { first_run = first_run_is; reacquires = run_that_reacquires_is; releases = run_that_releases_is; fetches = run_that_fetches_is; fails = run_that_fails_is; by_turns = locks_by_turns_lawful; of_all = first_run_of_all_is; all_by_turns = all_by_turns_lawful }
