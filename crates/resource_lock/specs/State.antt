-- What the fields of a `State` stand for, and what holds of them.
use Rattle.std.specs.Prelude.{◌≡◌, ◌≤◌, length, map, All, vec_capacity}
use Rattle.resource_lock.specs.StateView.{StateView, leases_out}
use Rattle.resource_lock.specs.Good.{Good}
use Rattle.resource_lock.specs.Holdings.{holding_from}
use Rattle.resource_lock.specs.Counting.{counts_of, counts_in, locks_owned}
use Rattle.resource_lock.specs.declared.ids.WorkerId.{WorkerId}
use Rattle.resource_lock.specs.declared.states.State.TheInside.{Inside}

abbrev pub state_view : Inside → StateView
state_view a = record {
  max_leases = a.max_leases;
  all = a.all;
  owners = a.owners.items;
  holdings = map holding_from a.held.items;
  tasks = a.marks.tasks.items;
  actions = a.marks.actions.items;
  units = a.marks.units.items;
}

-- The state is good, its leases and owned locks are counted, as is what each worker owns and runs, and each worker's list has room for
-- every lock.
pub record IsSound (a : Inside) : Type 0 where
  pub good : Good (state_view a)
  pub leases : a.out ≡ leases_out (state_view a)
  pub owned : a.owned ≡ locks_owned (state_view a)
  pub counts : (w : WorkerId) → counts_in a.held.items w ≡ counts_of (state_view a) w
  pub room : All (λ h. length a.owners.items ≤ vec_capacity h.parked) a.held.items
