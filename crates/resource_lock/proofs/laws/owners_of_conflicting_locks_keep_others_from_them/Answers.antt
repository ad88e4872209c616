use Rattle.resource_lock.proofs.lemmas.Conflicts.{kept_exactly, taken_exactly}
use Rattle.resource_lock.proofs.laws.owners_of_conflicting_locks_keep_others_from_them.Goals as goal

pub returns-clause-kept : goal.returns-clause-kept
returns-clause-kept c = kept_exactly

pub returns-clause-taken : goal.returns-clause-taken
returns-clause-taken c = taken_exactly
