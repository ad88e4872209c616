-- What the numbers say that C sees of a plan's calls.
use Rattle.std.specs.Prelude.{ℕ, ◌≡◌, ◌==◌, ◌<◌, Option, Some, None, length, if◌then◌else◌}
use Rattle.lock_journal.specs.Names.{GraphView, WorkerId}
use Rattle.planned_work.specs.Numbers.{IsActionAt, IsUnitAt}
use Rattle.planned_work.specs.declared.answers.Answer.{Answer}
use Rattle.planned_work.specs.declared.answers.Answer.TheVariants as answers
use Rattle.planned_work.specs.declared.answers.Next.{Next}
use Rattle.planned_work.specs.declared.answers.Next.TheVariants as nexts
use Rattle.planned_work.specs.declared.answers.Work.{Work}
use Rattle.planned_work.specs.declared.answers.Work.TheVariants as works
use Rattle.planned_work.specs.declared.opening.OpenRefusal.{OpenRefusal}
use Rattle.planned_work.specs.declared.opening.OpenRefusal.TheVariants as opened
use Rattle.planned_work.specs.declared.outcomes.Ended.{Ended}
use Rattle.planned_work.specs.declared.outcomes.Ended.TheVariants as ended
use Rattle.planned_work.specs.declared.plans.PlanRefusal.{PlanRefusal}
use Rattle.planned_work.specs.declared.plans.PlanRefusal.TheVariants as refusals
use Rattle.wakhurmi_c.specs.declared.plan_answers.PlanAnswer.{PlanAnswer}
use Rattle.wakhurmi_c.specs.declared.plan_answers.PlanAnswer.TheVariants.{Done, Busy, Stopped, Again, NoMemory, BadNumber, Misused, Empty, Full}
use Rattle.wakhurmi_c.specs.declared.plan_answers.PlanAnswer.TheVariants.{Cycle, TooMany, GoesOn, Stuck}
use Rattle.wakhurmi_c.specs.declared.plan_answers.PlanOutcome.{PlanOutcome}
use Rattle.wakhurmi_c.specs.declared.plan_answers.PlanWork.{PlanWork}

abbrev pub plan_answer_of : ℕ → PlanAnswer
plan_answer_of n = if n == 0 then Done else if n == 1 then Busy else if n == 3 then Stopped else if n == 4 then Again
    else if n == 5 then NoMemory else if n == 6 then BadNumber else if n == 7 then Misused else if n == 8 then Empty else if n == 9 then Full
    else if n == 11 then Cycle else if n == 12 then TooMany else if n == 13 then GoesOn else Stuck

abbrev pub answer_as : Answer → PlanAnswer
answer_as answers.Done = Done
answer_as answers.Busy = Busy
answer_as answers.Stopped = Stopped
answer_as answers.Again = Again
answer_as answers.NoMemory = NoMemory
answer_as answers.Misused = Misused
answer_as answers.Stuck = Stuck

abbrev pub next_as : Next → PlanAnswer
next_as (nexts.Do work) = Done
next_as nexts.GoesOn = GoesOn
next_as nexts.Busy = Busy
next_as nexts.Stopped = Stopped
next_as nexts.Again = Again
next_as nexts.NoMemory = NoMemory
next_as nexts.Misused = Misused
next_as nexts.Stuck = Stuck

abbrev pub refused_as : PlanRefusal → PlanAnswer
refused_as refusals.BadNumber = BadNumber
refused_as refusals.TooMany = TooMany
refused_as refusals.Misused = Misused
refused_as refusals.NoMemory = NoMemory

abbrev pub opened_as : OpenRefusal → PlanAnswer
opened_as opened.BadNumber = BadNumber
opened_as opened.Cycle = Cycle
opened_as opened.NoMemory = NoMemory

-- no worker, task, action or item has this number
abbrev pub NOBODY : ℕ
NOBODY = 4294967295

abbrev pub number_or : Option WorkerId → ℕ
number_or (Some w) = w.0
number_or None = NOBODY

abbrev pub item_or : Option ℕ → ℕ
item_or (Some i) = i
item_or None = NOBODY

-- it names the unit by its place
abbrev pub IsUnitWork : GraphView → ℕ → PlanWork → Type 0
IsUnitWork g u work = (item : Option ℕ) × (work.item ≡ item_or item) × IsUnitAt g u (record { task = work.task; action = work.action; item = item })

-- it says what the worker is to do, by places
abbrev pub IsWorkOf : GraphView → Work → PlanWork → Type 0
IsWorkOf g (works.Item u) work = (work.what ≡ 0) × (u < g.units → IsUnitWork g u work)
IsWorkOf g (works.Fetch u) work = (work.what ≡ 1) × (u < g.units → IsUnitWork g u work)
IsWorkOf g (works.Task t) work = (work.what ≡ 2) × (work.task ≡ t)
IsWorkOf g (works.Action a passed) work = (work.what ≡ 3) × (work.passed ≡ passed) × (a < length g.actions → IsActionAt g a work.task work.action)
IsWorkOf g works.Ended work = work.what ≡ 4

abbrev pub ended_of : PlanOutcome → Ended
ended_of o = if o.outcome == 0 then ended.NotEnded else if o.outcome == 1 then ended.Passed o.number else if o.outcome == 2 then ended.Failed else ended.Skipped
