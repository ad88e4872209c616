-- What the calls with a plan's worker tell C, by what they leave of the worker.
use Rattle.std.specs.Prelude.{ℕ, ◌≡◌, Bool, true, false, Option, Some, None, ⊤}
use Rattle.lock_journal.specs.Names.{GraphView, leases_out}
use Rattle.coordination.specs.Calls.{IsAnswered}
use Rattle.coordination.specs.declared.rule.Sight.{Sight}
use Rattle.planned_work.specs.Done.{ends_hold}
use Rattle.planned_work.specs.Rings.{WakesBy, all_rung, one_of, takers_rung}
use Rattle.planned_work.specs.declared.answers.Answer.{Answer}
use Rattle.planned_work.specs.declared.answers.Next.{Next}
use Rattle.planned_work.specs.declared.answers.Next.TheVariants as nexts
use Rattle.planned_work.specs.declared.rings.Rings.{Rings}
use Rattle.wakhurmi_c.specs.PlanNumbers.{IsWorkOf, answer_as, next_as, number_or, plan_answer_of}
use Rattle.wakhurmi_c.specs.declared.plan_answers.PlanAnswer.{PlanAnswer}
use Rattle.wakhurmi_c.specs.declared.plan_answers.PlanAnswer.TheVariants.{Done, Again}
use Rattle.wakhurmi_c.specs.declared.plan_answers.PlanTold.{PlanTold}
use Rattle.wakhurmi_c.specs.declared.plan_answers.PlanWork.{PlanWork}

-- C is told whom the call woke
pub record TellsRings (told : PlanTold) (rings : Rings) : Type 0 where
  pub one : told.wakes ≡ number_or (one_of rings.first.workers)
  pub another : told.wakes_too ≡ number_or (one_of rings.later.workers)
  pub all : told.wakes_all ≡ all_rung rings
  pub takers : told.wakes_takers ≡ takers_rung rings

-- C is told what to do, where there is something
abbrev pub TellsWork : GraphView → PlanWork → Next → Type 0
TellsWork g work (nexts.Do given) = IsWorkOf g given work
TellsWork g work _ = ⊤

-- C is told what is next, as the call left the worker, and whom that woke, where it had a hold.
pub record TellsNext (held : Next → Bool) (new : Sight) (work : PlanWork) (told : PlanTold) (Leaves : Next → Type 0) : Type 0 where
  pub next : Next
  pub rings : Rings
  pub left : Leaves next
  pub answer : plan_answer_of told.answer ≡ next_as next
  pub work_is : TellsWork new.seen.graph work next
  pub wakes : WakesBy (held next) new rings
  pub woken : TellsRings told rings

-- C is told what the call came to, as it left the worker, and whom that woke.
pub record TellsAnswer (new : Sight) (told : PlanTold) (Leaves : Answer → Type 0) : Type 0 where
  pub came : Answer
  pub rings : Rings
  pub left : Leaves came
  pub answer : plan_answer_of told.answer ≡ answer_as came
  pub wakes : WakesBy (ends_hold came) new rings
  pub woken : TellsRings told rings

-- the number of a unit that has passed, or none of one that failed
abbrev pub gave_by : Bool → ℕ → Option ℕ
gave_by true n = Some n
gave_by false n = None

-- So many leases were out in a book that the worker found, or it found none.
abbrev pub CountsAs : ℕ → Sight → Sight → PlanAnswer → Type 0
CountsAs n old new Done = IsAnswered (λ w book m. m ≡ leases_out book.state) n old new
CountsAs n old new Again = new ≡ old
CountsAs n old new _ = ⊥

-- with an answer there was a hold
abbrev pub counts_hold : PlanAnswer → Bool
counts_hold Done = true
counts_hold _ = false

-- and C is told whom that woke
pub record CountsLeases (n : ℕ) (old new : Sight) (told : PlanTold) : Type 0 where
  pub rings : Rings
  pub counts : CountsAs n old new (plan_answer_of told.answer)
  pub wakes : WakesBy (counts_hold (plan_answer_of told.answer)) new rings
  pub woken : TellsRings told rings
