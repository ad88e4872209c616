-- There is one answer to a text at most.
use Rattle.std.proofs.Common.{◌≡◌, ℕ, Option, Some, None, Result, Ok, Err, ap, sym, ◌∙◌}
use Rattle.std.specs.Option.{option_or}
use Rattle.toml.specs.Data.{Data}
use Rattle.ready_work.specs.Rank.{Dependencies, IsFirstCycle}
use Rattle.plan_table.specs.declared.refusals.PlanRefusal.{PlanRefusal}
use Rattle.plan_reader.specs.Names.{dependencies_of}
use Rattle.plan_reader.specs.Planned.{plan_of}
use Rattle.plan_reader.specs.Search.{refusal_before, refusal_behind, cycle_refusal}
use Rattle.plan_reader.specs.Reading.{Answer, answer_to, AnswersRanks, AnswersBy, ReadsBy}

abbrev OneCycle : Type 0
OneCycle = (g : Dependencies) (a b : Option ℕ) → IsFirstCycle g a → IsFirstCycle g b → a ≡ b

by_ranks : OneCycle → (d : Data) (a b : Answer) → AnswersRanks d a → AnswersRanks d b → a ≡ b
by_ranks unique d a b (first, cycle, e) (second, other, h) =
    e
    ∙ ap (λ o. answer_to (option_or (cycle_refusal o) (refusal_behind d)) (plan_of d)) (unique (dependencies_of d) first second cycle other)
    ∙ sym h

by_refusal : OneCycle → (o : Option PlanRefusal) (d : Data) (a b : Answer) → AnswersBy o d a → AnswersBy o d b → a ≡ b
by_refusal unique (Some r) d a b e h = e ∙ sym h
by_refusal unique None d a b x y = by_ranks unique d a b x y

pub one_answer : OneCycle → (reading : Result Data PlanRefusal) (a b : Answer) → ReadsBy reading a → ReadsBy reading b → a ≡ b
one_answer unique (Err r) a b e h = e ∙ sym h
one_answer unique (Ok d) a b x y = by_refusal unique (refusal_before d) d a b x y
