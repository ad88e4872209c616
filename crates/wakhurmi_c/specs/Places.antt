-- Where a worker may make which call.
use Rattle.std.specs.Prelude.{◌≡◌, ◌==◌, nat_lt, ℕ, Bool, not, ◌&&◌, ◌||◌, List, [], length}
use Rattle.std.specs.List.{list_all}
use Rattle.lock_journal.specs.Names.{GraphView, LockId, rises}
use Rattle.coordination.specs.declared.rule.Sight.{Sight}
use Rattle.coordination.specs.Shown.{blocked_shown, lease_shown, locks_shown, parked_shown}

-- a graph of workers, leases and locks alone
abbrev pub HasNoTasks : GraphView → Type 0
HasNoTasks g = (g.tasks ≡ []) × (g.actions ≡ []) × (g.units ≡ 0)

-- the worker is in no blocking section, and has parked nothing
abbrev pub may_take : Sight → Bool
may_take s = not (blocked_shown s) && (length (parked_shown s) == 0)

-- the worker is in no blocking section, and has a lease or a lock
abbrev pub may_hand_back : Sight → Bool
may_hand_back s = not (blocked_shown s) && (lease_shown s || not (length (locks_shown s) == 0))

-- the locks strictly rise, and are among so many
abbrev pub are_in_order : List LockId → ℕ → Bool
are_in_order ls locks = rises 0 ls && list_all (λ l. nat_lt l.0 locks) ls
