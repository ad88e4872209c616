-- At most how many changes an entry has.
use Rattle.std.specs.Prelude.{ℕ, ◌+◌, ◌*◌, ◌<◌, ◌≤◌, length}
use Rattle.resource_lock.specs.StateView.{StateView, holding_of}
use Rattle.resource_lock.specs.GraphView.{GraphView, action_of}
use Rattle.resource_lock.specs.Ranges.{actions_of}
use Rattle.resource_lock.specs.declared.ids.WorkerId.{WorkerId}
use Rattle.lock_transforms.specs.Table.{owned, skipped_actions}
use Rattle.lock_transforms.specs.declared.entries.Kind.{Kind}
use Rattle.lock_transforms.specs.declared.entries.Kind.TheVariants.{Start, Skip, Submit, Park, Resume, Claim, Close, Block, Unblock, End, Acquire, HandBack}

-- how many changes skip all actions of a task, and their units
abbrev pub changes_below : GraphView → ℕ → ℕ
changes_below g t = length (skipped_actions g (actions_of g t))

-- at most how many changes the worker's entry of the kind has in the state
abbrev pub most_of : GraphView → WorkerId → StateView → Kind → ℕ
most_of g w s (Start t) = 3
most_of g w s (Skip t) = 1 + changes_below g t
most_of g w s (Submit a) = 1 + (action_of g a).items
most_of g w s (Park a) = 4
most_of g w s (Resume a) = 4
most_of g w s (Claim u) = 2
most_of g w s (Close c) = 2
most_of g w s (Block u) = 3 + 2 * length (owned s w)
most_of g w s (Unblock c) = 3 + 2 * length (holding_of s w).parked
most_of g w s (End t) = 3 + changes_below g t
most_of g w s Acquire = 1 + g.locks
most_of g w s HandBack = 1 + length (owned s w)

-- At most how many locks more a worker owns or has parked after an entry of the kind that has so many changes. Of the other kinds each that parks a lock
-- gives it back before, and each that takes a lock had it parked.
abbrev pub locks_gained : Kind → ℕ → ℕ
locks_gained (Start t) changes = 1
locks_gained Acquire changes = changes
locks_gained _ changes = 0

-- There is room for any entry of the graph: for those that move a mark or two, for all locks given back and parked, and for the end of a task that skips all
-- its actions.
pub record IsRoomFor (g : GraphView) (room : ℕ) : Type 0 where
  pub few : 4 ≤ room
  pub locks : 3 + 2 * g.locks ≤ room
  pub tasks : (t : ℕ) → t < length g.tasks → 3 + changes_below g t ≤ room
