-- Turns: what a worker does with the book in one hold of the state lock.
use Rattle.std.specs.Prelude.{◌≡◌, Bool, true, false, List, Result, Ok, Err, None}
use Rattle.lock_journal.specs.Names.{WorkerId, Change, BookView, FinishesIn, FailsIn, Kind, Disposition, Finished, Retry}
use Rattle.history_views.specs.ShownBooks.{IsUnchanged}
use Rattle.lock_transforms.specs.declared.transforms.Disposition.TheVariants.{Failed}
use Rattle.worker_notes.specs.declared.parts.WorkerPart.{WorkerPart}
use Rattle.coordination.specs.declared.rule.Sight.{Sight}
use Rattle.coordination.specs.declared.turns.Came.{Came}
use Rattle.coordination.specs.declared.turns.Came.TheVariants as came
use Rattle.worker_notes.specs.Agrees.{Agrees, Finds, IsSoundBook}
use Rattle.coordination.specs.Attempts.{Cause, Making}
use Rattle.worker_notes.specs.Parts.{HasRoom, IsPartOf}
use Rattle.coordination.specs.Rule.{AddsOwn}
use Rattle.coordination.specs.Sights.{seeing}

-- What a turn leaves of a book, by what came of it. It is to be had again where it may have to wait, and it may want memory only where
-- something is to be run.
abbrev pub Leaves : {C : Type 0} → (WorkerId → BookView → BookView → C → Type 0) → (WorkerId → BookView → Type 0) → (WorkerId → BookView → Type 0)
    → WorkerId → BookView → BookView → Came C → Type 0
Leaves gives waits runs w old new (came.Done c) = gives w old new c
Leaves gives waits runs w old new came.NoMemory = runs w new × IsUnchanged old new
Leaves gives waits runs w old new came.Again = waits w new × IsUnchanged old new

-- the sight of a worker that has seen the book, and knows of no stop
abbrev pub sight_at : WorkerId → BookView → Sight
sight_at w book = record { worker = w; seen = book; stopped = false; stopped_by = None }

-- A turn left the book so. Only its worker's own entries were added, and the worker's part has followed.
pub record HasLeft {C : Type 0} (gives : WorkerId → BookView → BookView → C → Type 0) (waits runs : WorkerId → BookView → Type 0)
    (w : WorkerId) (old new : BookView) (part : WorkerPart) (r : Came C) : Type 0 where
  pub own : AddsOwn (sight_at w old) new
  pub kept : IsPartOf new w part
  pub room : HasRoom part
  pub leaves : Leaves gives waits runs w old new r

-- A turn found a sound book that agrees with its worker's sight, and left a sound one, which the worker saw.
pub record HasTurned {C : Type 0} (gives : WorkerId → BookView → BookView → C → Type 0) (waits runs : WorkerId → BookView → Type 0)
    (old new : Sight) (r : Came C) : Type 0 where
  pub before : BookView
  pub after : BookView
  pub found : Finds old.worker old.seen before
  pub graph : after.graph ≡ before.graph
  pub leaves : Leaves gives waits runs old.worker before after r
  pub left : IsSoundBook after
  pub sight : new ≡ seeing old after

-- A turn came to this.
pub record HasDone {C : Type 0} (gives : WorkerId → BookView → BookView → C → Type 0) (old new : Sight) (c : C) : Type 0 where
  pub before : BookView
  pub after : BookView
  pub found : Finds old.worker old.seen before
  pub graph : after.graph ≡ before.graph
  pub outcome : gives old.worker before after c
  pub left : IsSoundBook after
  pub sight : new ≡ seeing old after

-- The worker has only looked: what it sees agrees with what it saw.
pub record OnlyLooked (old new : Sight) : Type 0 where
  pub agrees : Agrees old.worker old.seen new.seen
  pub sight : new ≡ seeing old new.seen

-- a transform finished on the old book, and left the new one
abbrev pub Finishes : Kind → Making → WorkerId → BookView → BookView → Type 0
Finishes kind making w old new = (changes : List Change) × FinishesIn making old new w kind changes

-- what a transform of this kind leaves of a book where it finishes, and where it makes a failed entry
abbrev pub RunGives : Kind → Making → Cause → WorkerId → BookView → BookView → Bool → Type 0
RunGives kind makes fails w old new true = Finishes kind makes w old new
RunGives kind makes fails w old new false = FailsIn fails old new w kind

-- what came of a transform
abbrev pub came_of : {E : Type 0} → Result Disposition E → Came Bool
came_of (Ok Finished) = came.Done true
came_of (Ok Failed) = came.Done false
came_of (Ok Retry) = came.Again
came_of (Err e) = came.NoMemory

-- an answer of the book, which a question leaves as it is
abbrev pub AskGives : {A : Type 0} → (WorkerId → BookView → A → Type 0) → WorkerId → BookView → BookView → A → Type 0
AskGives answers w old new a = answers w old a × (new ≡ old)
