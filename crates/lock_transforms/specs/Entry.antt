-- An entry of the history, its effect, and the state that a history leads to.
use Rattle.std.specs.Prelude.{ℕ, List, [], ◌∷◌, Option, None, Some, take}
use Rattle.resource_lock.specs.StateView.{StateView}
use Rattle.resource_lock.specs.Change.{make_all}
use Rattle.resource_lock.specs.GraphView.{GraphView}
use Rattle.resource_lock.specs.Opening.{opening_of}
use Rattle.resource_lock.specs.declared.ids.WorkerId.{WorkerId}
use Rattle.resource_lock.specs.declared.changes.Change.{Change}
use Rattle.lock_transforms.specs.declared.entries.Kind.{Kind}

-- a worker, a kind, and the changes that were made, or none where it failed
pub record Entry : Type 0 where
  pub worker : WorkerId
  pub kind : Kind
  pub changes : Option (List Change)

abbrev pub entry : WorkerId → Kind → Option (List Change) → Entry
entry w kind changes = record { worker = w; kind = kind; changes = changes }

-- the changes of an entry, made in order; a failed entry changes nothing
abbrev pub changed : StateView → WorkerId → Option (List Change) → StateView
changed s w None = s
changed s w (Some cs) = make_all s w cs

abbrev pub effect : StateView → Entry → StateView
effect s e = changed s e.worker e.changes

-- the state after a list of entries, from a state on
abbrev pub replay_from : StateView → List Entry → StateView
replay_from s [] = s
replay_from s (e ∷ es) = replay_from (effect s e) es

-- the state that a history leads to
abbrev pub replay : GraphView → List Entry → StateView
replay g h = replay_from (opening_of g) h

-- the state after the first n entries
abbrev pub prefix_state : GraphView → List Entry → ℕ → StateView
prefix_state g h n = replay g (take n h)
