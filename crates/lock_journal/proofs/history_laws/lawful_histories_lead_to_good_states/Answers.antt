-- All are lemmas.
use Rattle.lock_journal.proofs.lemmas.Named.{belongs, good, named}
use Rattle.lock_journal.proofs.history_laws.lawful_histories_lead_to_good_states.Goals as goal

pub returns : goal.returns
returns c = record { good = good; belongs = belongs; workers = named }
