-- How many locks a worker owns, and how many marks run by it.
use Rattle.std.specs.Prelude.{ℕ, List, map, count_by, slice_index_or}
use Rattle.resource_lock.specs.StateView.{StateView, is_owned, is_owner, runs_by}
use Rattle.resource_lock.specs.declared.ids.WorkerId.{WorkerId}
use Rattle.resource_lock.specs.declared.states.held.Counts.{Counts}
use Rattle.resource_lock.specs.declared.states.held.Held.{Held}

abbrev pub counts_of : StateView → WorkerId → Counts
counts_of s w = record {
  locks = count_by (λ o. is_owner o w) s.owners;
  tasks = count_by (runs_by w) s.tasks;
  actions = count_by (runs_by w) s.actions;
  units = count_by (runs_by w) s.units;
}

abbrev pub no_counts : Counts
no_counts = record { locks = 0; tasks = 0; actions = 0; units = 0 }

-- how many locks have an owner
abbrev pub locks_owned : StateView → ℕ
locks_owned s = count_by is_owned s.owners

-- what stands in the workers' entries, which is nothing where there is no such worker
abbrev pub counts_in : List Held → WorkerId → Counts
counts_in held w = slice_index_or (map (λ h. h.counts) held) w.0 no_counts
