-- The plan that a text is, or the first refusal.
use Rattle.std.specs.Prelude.{ℕ, ◌≡◌, List, Option, None, Some, Result, Ok, Err}
use Rattle.std.specs.Option.{option_or}
use Rattle.toml.specs.Data.{Data}
use Rattle.ready_work.specs.Rank.{Dependencies, IsFirstCycle}
use Rattle.plan_table.specs.declared.refusals.PlanRefusal.{PlanRefusal}
use Rattle.plan_table.specs.declared.refusals.PlanFail.{PlanFail}
use Rattle.plan_table.specs.declared.refusals.PlanFail.TheVariants as fail
use Rattle.plan_table.specs.Document.{document_reading}
use Rattle.plan_reader.specs.Names.{dependencies_of}
use Rattle.plan_reader.specs.PlanView.{PlanView}
use Rattle.plan_reader.specs.Planned.{plan_of}
use Rattle.plan_reader.specs.Search.{refusal_before, refusal_behind, cycle_at, cycle_refusal}

-- nothing is refused
pub record IsAccepted (d : Data) : Type 0 where
  pub before : refusal_before d ≡ None
  pub ranked : IsFirstCycle (dependencies_of d) None
  pub behind : refusal_behind d ≡ None

abbrev pub Answer : Type 0
Answer = Result PlanView PlanRefusal

abbrev pub answer_to : Option PlanRefusal → PlanView → Answer
answer_to None plan = Ok plan
answer_to (Some r) plan = Err r

-- nothing is refused before Cycle, which is where the first task without a rank stands
abbrev pub AnswersRanks : Data → Answer → Type 0
AnswersRanks d answer = (first : Option ℕ) × IsFirstCycle (dependencies_of d) first
    × (answer ≡ answer_to (option_or (cycle_refusal first) (refusal_behind d)) (plan_of d))

abbrev pub AnswersBy : Option PlanRefusal → Data → Answer → Type 0
AnswersBy (Some r) d answer = answer ≡ Err r
AnswersBy None d answer = AnswersRanks d answer

abbrev pub ReadsBy : Result Data PlanRefusal → Answer → Type 0
ReadsBy (Err r) answer = answer ≡ Err r
ReadsBy (Ok d) answer = AnswersBy (refusal_before d) d answer

-- the answer to a text
abbrev pub Reads : List ℕ → Answer → Type 0
Reads bytes answer = ReadsBy (document_reading bytes) answer

-- memory ran out, or the refusal is the answer
abbrev pub Refuses : (Answer → Type 0) → PlanFail → Type 0
Refuses Is fail.NoMemory = Unit {0}
Refuses Is (fail.Refused r) = Is (Err r)

-- the plan is the answer, or memory ran out, or the refusal is the answer
abbrev pub Gives : (Answer → Type 0) → Result PlanView PlanFail → Type 0
Gives Is (Ok plan) = Is (Ok plan)
Gives Is (Err e) = Refuses Is e

-- memory ran out, or it is the refusal that was found
abbrev pub RefusesBy : Option PlanRefusal → PlanFail → Type 0
RefusesBy found fail.NoMemory = Unit {0}
RefusesBy found (fail.Refused r) = found ≡ Some r

-- memory ran out, or the first task without a rank is refused
abbrev pub RefusesCycle : Dependencies → PlanFail → Type 0
RefusesCycle g fail.NoMemory = Unit {0}
RefusesCycle g (fail.Refused r) = (first : ℕ) × IsFirstCycle g (Some first) × (r ≡ cycle_at first)
