-- What the condition of each kind says of marks.
use Rattle.std.specs.Prelude.{ℕ, ◌≡◌, ◌<◌, ◌⊎◌, Bool, Some}
use Rattle.std.specs.List.{Any, list_all}
use Rattle.lock_journal.specs.Names.{WorkerId, Mark, Waiting, Queued, Running, Passed, Failed, Skipped, TaskOf, ActionOf, UnitOf, GraphView, task_of}
use Rattle.lock_journal.specs.Names.{action_of, actions_of, IsActionOf, IsItemOf, IsFetchOf, IsUnitOf, StateView, mark_of, Kind, Start, Skip, Submit}
use Rattle.lock_journal.specs.Names.{Park, Resume, Claim, Close, Block, Unblock, End, units_passed, IsDone, IsEnded, AfterPassed}

abbrev pub HasFallen : Mark → Type 0
HasFallen m = (m ≡ Failed) ⊎ (m ≡ Skipped)

-- a task that this one comes after is Failed or Skipped
abbrev pub AfterFallen : GraphView → StateView → ℕ → Type 0
AfterFallen g s t = Any (λ p. HasFallen (mark_of s (TaskOf p))) (task_of g t).after

-- each earlier action of the task is Passed, and so are its units
abbrev pub EarlierPassed : GraphView → StateView → ℕ → ℕ → Type 0
EarlierPassed g s t a =
    (b : ℕ) → IsActionOf g t b → b < a → (mark_of s (ActionOf b) ≡ Passed) × ((u : ℕ) → IsUnitOf g b u → mark_of s (UnitOf u) ≡ Passed)

-- an earlier action of the task has a unit that Failed
abbrev pub EarlierFailed : GraphView → StateView → ℕ → ℕ → Type 0
EarlierFailed g s t a =
    (b u : ℕ) × IsActionOf g t b × (b < a) × IsUnitOf g b u × (mark_of s (UnitOf u) ≡ Failed)

abbrev pub FetchDone : GraphView → StateView → ℕ → Type 0
FetchDone g s a = (u : ℕ) → IsFetchOf g a u → IsDone (mark_of s (UnitOf u))

-- an action of a task that can end: it is Passed, or waits behind one with a unit that Failed
abbrev pub IsThrough : GraphView → StateView → ℕ → ℕ → Type 0
IsThrough g s t a = (mark_of s (ActionOf a) ≡ Passed) ⊎ ((mark_of s (ActionOf a) ≡ Waiting) × EarlierFailed g s t a)

-- each unit of the task is Passed
abbrev pub all_passed : GraphView → StateView → ℕ → Bool
all_passed g s t = list_all (units_passed g s) (actions_of g t)

abbrev pub MarkCondition : GraphView → StateView → WorkerId → Kind → Type 0
MarkCondition g s w (Start t) = (mark_of s (TaskOf t) ≡ Waiting) × AfterPassed g s t
MarkCondition g s w (Skip t) = (mark_of s (TaskOf t) ≡ Waiting) × AfterFallen g s t
MarkCondition g s w (Submit a) = EarlierPassed g s (action_of g a).task a × FetchDone g s a
MarkCondition g s w (Park a) = mark_of s (ActionOf a) ≡ Queued
MarkCondition g s w (Resume a) = (mark_of s (ActionOf a) ≡ Running w) × ((u : ℕ) → IsItemOf g a u → IsEnded (mark_of s (UnitOf u)))
MarkCondition g s w (Claim u) = mark_of s (UnitOf u) ≡ Queued
MarkCondition g s w (Close d) = mark_of s (UnitOf d.unit) ≡ Running w
MarkCondition g s w (Block (Some u)) = (a : ℕ) × IsFetchOf g a u × EarlierPassed g s (action_of g a).task a
MarkCondition g s w (Unblock (Some d)) = mark_of s (UnitOf d.unit) ≡ Running w
MarkCondition g s w (End t) = (mark_of s (TaskOf t) ≡ Running w) × ((a : ℕ) → IsActionOf g t a → IsThrough g s t a)
MarkCondition g s w _ = Unit {0}
