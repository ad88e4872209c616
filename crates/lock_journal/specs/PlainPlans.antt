-- Histories in which nobody names the all-projects lock, by the rule of graphs that have none: a lock is kept by its owner alone.
use Rattle.std.specs.Prelude.{ℕ, ◌≡◌, ◌<◌, ◌+◌, Bool, true, not, ◌&&◌, List, [], ◌∷◌, Some, IfSome, is_none}
use Rattle.std.specs.List.{AllByRecursion}
use Rattle.resource_lock.specs.Change.{can, make, NamesOnly}
use Rattle.resource_lock.specs.GraphView.{GraphView}
use Rattle.resource_lock.specs.Opening.{opening_of}
use Rattle.resource_lock.specs.StateView.{StateView, has_parked, owner_of}
use Rattle.resource_lock.specs.declared.changes.Change.{Change}
use Rattle.resource_lock.specs.declared.changes.Change.TheVariants.{Lock, Unlock, Park as ParkLock, Unpark}
use Rattle.resource_lock.specs.declared.ids.WorkerId.{WorkerId}
use Rattle.lock_transforms.specs.Allowed.{IsKindOf, IsListOf}
use Rattle.lock_transforms.specs.Entry.{Entry, effect}
use Rattle.lock_transforms.specs.Table.{condition}
use Rattle.lock_transforms.specs.declared.entries.Kind.{Kind}

-- where worker w could make a change, if a lock were kept by its owner alone
abbrev pub could : StateView → WorkerId → Change → Bool
could s w (Lock l) = is_none (owner_of s l) && not (has_parked s w l)
could s w c = can s w c

abbrev pub could_all : StateView → WorkerId → List Change → Bool
could_all s w [] = true
could_all s w (c ∷ cs) = could s w c && could_all (make s w c) w cs

pub record Finished (g : GraphView) (s : StateView) (w : WorkerId) (kind : Kind) (cs : List Change) : Type 0 where
  pub condition : condition g s w kind ≡ true
  pub list : IsListOf g s w kind cs
  pub named : AllByRecursion (NamesOnly s) cs
  pub possible : could_all s w cs ≡ true

pub record WasAllowed (g : GraphView) (s : StateView) (e : Entry) : Type 0 where
  pub worker : e.worker.0 < g.workers
  pub kind : IsKindOf g e.kind
  pub finished : IfSome e.changes (Finished g s e.worker e.kind)

abbrev pub was_lawful_from : GraphView → StateView → List Entry → Type 0
was_lawful_from g s [] = Unit {0}
was_lawful_from g s (e ∷ es) = WasAllowed g s e × was_lawful_from g (effect s e) es

-- lawful by that rule
abbrev pub WasLawful : GraphView → List Entry → Type 0
WasLawful g h = was_lawful_from g (opening_of g) h

-- the graph with one lock more, which is its all-projects lock
abbrev pub with_all : GraphView → GraphView
with_all g = record g { locks = g.locks + 1; all = Some (record { 0 = g.locks }) }

-- the change names no lock from this one on
abbrev pub IsBelow : ℕ → Change → Type 0
IsBelow n (Lock l) = l.0 < n
IsBelow n (Unlock l) = l.0 < n
IsBelow n (ParkLock l) = l.0 < n
IsBelow n (Unpark l) = l.0 < n
IsBelow n _ = Unit {0}

-- no change of the entries does
abbrev pub NameLocksBelow : ℕ → List Entry → Type 0
NameLocksBelow n h = AllByRecursion (λ e. IfSome e.changes (AllByRecursion (IsBelow n))) h
