-- Marks that have ended, and tasks that were allowed to start.
use Rattle.std.specs.Prelude.{ℕ, ◌≡◌}
use Rattle.std.specs.List.{All}
use Rattle.resource_lock.specs.declared.marks.Mark.{Mark}
use Rattle.resource_lock.specs.declared.marks.Mark.TheVariants.{Passed, Failed, Skipped}
use Rattle.resource_lock.specs.declared.marks.MarkId.TheVariants.{Task as TaskOf}
use Rattle.resource_lock.specs.GraphView.{GraphView, task_of}
use Rattle.resource_lock.specs.StateView.{StateView, mark_of}

abbrev pub IsEnded : Mark → Type 0
IsEnded Passed = Unit {0}
IsEnded Failed = Unit {0}
IsEnded Skipped = Unit {0}
IsEnded _ = ⊥

-- every mark has ended
pub record HasEnded (s : StateView) : Type 0 where
  pub tasks : All IsEnded s.tasks
  pub actions : All IsEnded s.actions
  pub units : All IsEnded s.units

-- each task that this one comes after is Passed
abbrev pub AfterPassed : GraphView → StateView → ℕ → Type 0
AfterPassed g s t = All (λ p. mark_of s (TaskOf p) ≡ Passed) (task_of g t).after
