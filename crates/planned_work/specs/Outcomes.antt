-- What became of tasks and units.
use Rattle.std.specs.Prelude.{Option, Some, None}
use Rattle.item_actions.specs.declared.outcomes.Outcome.{Outcome}
use Rattle.item_actions.specs.declared.outcomes.Outcome.TheVariants as outcomes
use Rattle.resource_lock.specs.declared.marks.Mark.{Mark}
use Rattle.resource_lock.specs.declared.marks.Mark.TheVariants as marks
use Rattle.planned_work.specs.declared.outcomes.Ended.{Ended}
use Rattle.planned_work.specs.declared.outcomes.Ended.TheVariants as ended

-- by its mark
abbrev pub ended_by : Mark → Ended
ended_by marks.Passed = ended.Passed 0
ended_by marks.Failed = ended.Failed
ended_by marks.Skipped = ended.Skipped
ended_by _ = ended.NotEnded

-- by its outcome, if it has one
abbrev pub ended_as : Option Outcome → Ended
ended_as None = ended.NotEnded
ended_as (Some (outcomes.Number n)) = ended.Passed n
ended_as (Some (outcomes.Digest d)) = ended.Passed 0
ended_as (Some outcomes.Skipped) = ended.Skipped
ended_as (Some _) = ended.Failed
