-- A graph without tasks fits.
use Rattle.std.proofs.Common.{◌≤◌, ℕ, [], None, refl, arith}
use Rattle.lock_journal.specs.Names.{Fits, made_of}
use Rattle.resource_lock.specs.declared.limits.TheConstants.{MAX_LEASES, MAX_LOCKS, MAX_WORKERS}

pub no_tasks_fit : (locks workers most : ℕ) → locks ≤ MAX_LOCKS → 1 ≤ workers → workers ≤ MAX_WORKERS → 1 ≤ most → most ≤ MAX_LEASES → Fits (made_of locks None workers most [] [])
no_tasks_fit locks workers most few_locks some_worker few_workers some_lease few_leases = record {
  some_worker = some_worker;
  few_workers = few_workers;
  some_lease = some_lease;
  few_leases = few_leases;
  few_locks = few_locks;
  all_within = tt;
  few_tasks = omega arith;
  few_units = omega arith;
  few_actions = λ i d low. absurd (omega (arith, low));
  few_after = λ i d low. absurd (omega (arith, low));
  locks_within = λ i d low. absurd (omega (arith, low));
  after_within = λ i d low. absurd (omega (arith, low));
  actions_follow = refl;
  units_follow = refl;
  own_task = λ a low. absurd (omega (arith, low));
  some_item = λ i d low. absurd (omega (arith, low));
}
