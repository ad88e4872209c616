-- What is said of a history that brought every task to its end.
use Rattle.std.specs.Prelude.{ℕ, ◌≡◌, ◌<◌, ◌==◌, Bool, true, false, ◌&&◌, ◌⊎◌, List, [], ◌∷◌, ◌++◌, length, is_some}
use Rattle.std.specs.List.{count_by}
use Rattle.resource_lock.specs.declared.marks.Mark.TheVariants.{Skipped}
use Rattle.resource_lock.specs.declared.marks.MarkId.TheVariants.{Task as TaskOf, Unit as UnitOf}
use Rattle.resource_lock.specs.GraphView.{GraphView}
use Rattle.resource_lock.specs.Ranges.{IsActionOf, IsUnitOf, IsItem}
use Rattle.resource_lock.specs.StateView.{mark_of}
use Rattle.item_actions.specs.declared.outcomes.Outcome.{Outcome}
use Rattle.lock_transforms.specs.declared.entries.Kind.{Kind}
use Rattle.lock_transforms.specs.declared.entries.Kind.TheVariants.{Start, Skip, Claim}
use Rattle.lock_journal.specs.Closings.{closing_of, where_finished, closings, outcome_in}
use Rattle.lock_transforms.specs.Entry.{Entry, replay}
use Rattle.lock_journal.specs.Marks.{AfterPassed}
use Rattle.lock_journal.specs.Outcomes.{task_outcome, unit_outcome}

-- how many entries finished with a kind that meets a test
abbrev pub finished_as : (Kind → Bool) → Entry → Bool
finished_as test e = is_some e.changes && test e.kind

abbrev pub times : (Kind → Bool) → List Entry → ℕ
times test h = count_by (finished_as test) h

abbrev pub starts : ℕ → Kind → Bool
starts t (Start n) = n == t
starts t _ = false

abbrev pub skips : ℕ → Kind → Bool
skips t (Skip n) = n == t
skips t _ = false

abbrev pub claims : ℕ → Kind → Bool
claims u (Claim n) = n == u
claims u _ = false

-- v gives each closed unit the outcome of its closing entry
abbrev pub GivesClosedOutcomes : (ℕ → Outcome) → List Entry → Type 0
GivesClosedOutcomes v h = (u : ℕ) (o : Outcome) → closings h u ≡ o ∷ [] → v u ≡ o

-- The marks and outcomes of a history are those of the plan.
pub record ComesTo (g : GraphView) (h : List Entry) (v : ℕ → Outcome) (n : ℕ) : Type 0 where
  pub tasks : (t : ℕ) → t < length g.tasks → mark_of (replay g h) (TaskOf t) ≡ task_outcome g v n t
  pub units : (t a u : ℕ) → IsActionOf g t a → IsUnitOf g a u → outcome_in h u ≡ unit_outcome g v n t a u

-- a task was started once and never skipped, or skipped once and never started
abbrev pub OnceStartedOrSkipped : List Entry → ℕ → Type 0
OnceStartedOrSkipped h t = ((times (starts t) h ≡ 1) × (times (skips t) h ≡ 0)) ⊎ ((times (starts t) h ≡ 0) × (times (skips t) h ≡ 1))

-- an entry of a history, with those before and behind it
abbrev pub StandsIn : List Entry → List Entry → Entry → List Entry → Type 0
StandsIn h before e later = h ≡ before ++ e ∷ later

-- the entry closes a unit with this outcome
abbrev pub Closes : Entry → ℕ → Outcome → Type 0
Closes e u o = where_finished e.changes (closing_of u e.kind) ≡ o ∷ []

-- a unit never ran and is Skipped, or was closed by one entry
abbrev pub NeverOrOnceClosed : GraphView → List Entry → ℕ → Type 0
NeverOrOnceClosed g h u = ((mark_of (replay g h) (UnitOf u) ≡ Skipped) × (closings h u ≡ [])) ⊎ ((o : Outcome) × (closings h u ≡ o ∷ []))

-- Each task was started once, after those that it comes after had passed, or skipped once; each closed item was claimed once, before it was closed.
pub record IsOrderly (g : GraphView) (h : List Entry) : Type 0 where
  pub once : (t : ℕ) → t < length g.tasks → OnceStartedOrSkipped h t
  pub started_after : (before later : List Entry) (e : Entry) (t : ℕ) → StandsIn h before e later → e.kind ≡ Start t
      → is_some e.changes ≡ true → AfterPassed g (replay g before) t
  pub claimed_before : (before later : List Entry) (e : Entry) (u : ℕ) (o : Outcome) → IsItem g u → StandsIn h before e later
      → Closes e u o → times (claims u) before ≡ 1
  pub claimed_once : (u : ℕ) (o : Outcome) → IsItem g u → closings h u ≡ o ∷ [] → times (claims u) h ≡ 1
  pub closed_once : (a u : ℕ) → IsUnitOf g a u → NeverOrOnceClosed g h u
