-- Which entries may stand in a history.
use Rattle.std.specs.Prelude.{◌≡◌, ◌≢◌, ◌<◌, true, false, List, [], ◌∷◌, length, None, Some, IfSome}
use Rattle.std.specs.List.{AllByRecursion}
use Rattle.resource_lock.specs.StateView.{StateView, holding_of}
use Rattle.resource_lock.specs.Change.{can_all, NamesOnly}
use Rattle.resource_lock.specs.GraphView.{GraphView}
use Rattle.resource_lock.specs.Opening.{opening_of}
use Rattle.resource_lock.specs.declared.ids.WorkerId.{WorkerId}
use Rattle.resource_lock.specs.declared.changes.Change.{Change}
use Rattle.item_actions.specs.declared.outcomes.Outcome.TheVariants as outcomes
use Rattle.lock_transforms.specs.Entry.{Entry, effect}
use Rattle.lock_transforms.specs.Table.{condition, list_of, is_enabled, acquires}
use Rattle.lock_transforms.specs.declared.entries.Closed.{Closed}
use Rattle.lock_transforms.specs.declared.entries.Kind.{Kind}
use Rattle.lock_transforms.specs.declared.entries.Kind.TheVariants.{Start, Skip, Submit, Park, Resume, Claim, Close, Block, Unblock, End, Acquire, HandBack}

-- a unit of the graph, with an outcome of work that was done
abbrev pub IsClosedOf : GraphView → Closed → Type 0
IsClosedOf g c = (c.unit < g.units) × (c.outcome ≢ outcomes.Skipped)

-- the numbers in the kind are in range, and it doesn't carry Skipped
abbrev pub IsKindOf : GraphView → Kind → Type 0
IsKindOf g (Start t) = t < length g.tasks
IsKindOf g (Skip t) = t < length g.tasks
IsKindOf g (End t) = t < length g.tasks
IsKindOf g (Submit a) = a < length g.actions
IsKindOf g (Park a) = a < length g.actions
IsKindOf g (Resume a) = a < length g.actions
IsKindOf g (Claim u) = u < g.units
IsKindOf g (Close c) = IsClosedOf g c
IsKindOf g (Block (Some u)) = u < g.units
IsKindOf g (Block None) = Unit {0}
IsKindOf g (Unblock (Some c)) = IsClosedOf g c
IsKindOf g (Unblock None) = Unit {0}
IsKindOf g Acquire = Unit {0}
IsKindOf g HandBack = Unit {0}

-- the list of changes is the kind's
abbrev pub IsListOf : GraphView → StateView → WorkerId → Kind → List Change → Type 0
IsListOf g s w Acquire cs = acquires 0 (holding_of s w).lease cs ≡ true
IsListOf g s w kind cs = cs ≡ list_of g s w kind

-- the list of changes is the one that the kind and the state fix
abbrev pub IsFixedList : Kind → GraphView → WorkerId → StateView → List Change → Type 0
IsFixedList kind g w s cs = cs ≡ list_of g s w kind

-- an entry of a kind that is in range can't finish
abbrev pub IsDisabled : Kind → GraphView → WorkerId → StateView → Type 0
IsDisabled kind g w s = IsKindOf g kind → is_enabled g s w kind ≡ false

-- the condition of a kind that is in range doesn't hold
abbrev pub IsUnmet : Kind → GraphView → WorkerId → StateView → Type 0
IsUnmet kind g w s = IsKindOf g kind → condition g s w kind ≡ false

-- The condition holds, the list is the kind's, and each change can be made in turn.
pub record Finishes (g : GraphView) (s : StateView) (w : WorkerId) (kind : Kind) (cs : List Change) : Type 0 where
  pub condition : condition g s w kind ≡ true
  pub list : IsListOf g s w kind cs
  pub named : AllByRecursion (NamesOnly s) cs
  pub possible : can_all s w cs ≡ true

-- The entry is allowed in a state: its numbers are in range, and it failed, or finishes there.
pub record Allowed (g : GraphView) (s : StateView) (e : Entry) : Type 0 where
  pub worker : e.worker.0 < g.workers
  pub kind : IsKindOf g e.kind
  pub finished : IfSome e.changes (Finishes g s e.worker e.kind)

-- each entry is allowed in the state that those before it lead to
abbrev pub lawful_from : GraphView → StateView → List Entry → Type 0
lawful_from g s [] = Unit {0}
lawful_from g s (e ∷ es) = Allowed g s e × lawful_from g (effect s e) es

abbrev pub Lawful : GraphView → List Entry → Type 0
Lawful g h = lawful_from g (opening_of g) h
