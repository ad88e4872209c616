-- A list of changes that is made as far as each of them can be.
use Rattle.std.specs.Prelude.{◌≡◌, ◌+◌, ◌≤◌, Bool, true, false, List, [], ◌∷◌, ◌++◌, length, if◌then◌else◌}
use Rattle.resource_lock.specs.StateView.{StateView}
use Rattle.resource_lock.specs.Change.{can, make, make_all, can_all}
use Rattle.resource_lock.specs.declared.changes.Change.{Change}
use Rattle.resource_lock.specs.declared.ids.WorkerId.{WorkerId}
use Rattle.lock_transforms.specs.TentativeView.{TentativeView, LeadsTo}

-- the changes of a list before the first that can't be made, or all of them
abbrev pub possible_front : StateView → WorkerId → List Change → List Change
possible_front s w [] = []
possible_front s w (c ∷ cs) = if can s w c then c ∷ possible_front (make s w c) w cs else []

-- each change of the list could be made in turn, and was
pub record MadeAll (old new : TentativeView) (changes : List Change) : Type 0 where
  pub made : new.made ≡ old.made ++ changes
  pub state : new.state ≡ make_all old.state old.worker changes
  pub possible : can_all old.state old.worker changes ≡ true

-- Exactly the changes before the first that can't be made were made, and the answer is whether that is all of them.
pub record Makes (old new : TentativeView) (changes : List Change) (all : Bool) : Type 0 where
  pub graph : new.graph ≡ old.graph
  pub worker : new.worker ≡ old.worker
  pub room : new.room + length new.made ≡ old.room + length old.made
  pub few : length new.made ≤ length old.made + length changes
  pub leads : (before : StateView) → LeadsTo before old → LeadsTo before new
  pub front : MadeAll old new (possible_front old.state old.worker changes)
  pub whole : all ≡ true → MadeAll old new changes
  pub stopped : all ≡ false → can_all old.state old.worker changes ≡ false
