-- What a count of faults that goes with an outcome comes to.
use Rattle.std.proofs.Common.{◌≡◌, ℕ, ◌≤◌, arith}
use Rattle.std.proofs.lemmas.Bool.Decides.{nat_tests}
use Rattle.item_actions.specs.declared.outcomes.Outcome.{Outcome}
use Rattle.item_actions.specs.declared.outcomes.Outcome.TheVariants as outcomes
use Rattle.file_access.specs.Calls.{next}
use Rattle.file_access.specs.ReadView.{IsOutcomeCounted}
use Rattle.file_access.specs.SinkView.{Rises}

next_kept : (n : ℕ) → n ≤ next n
next_kept n = grind (arith, nat_tests)

next_rises : (n : ℕ) → Rises n (next n)
next_rises n = grind (arith, nat_tests)

-- the count doesn't fall
pub outcome_kept : (o : Outcome) (old new : ℕ) → IsOutcomeCounted old new o → old ≤ new
outcome_kept outcomes.Fault old new counted = let e = next_kept old in omega (arith, counted)
outcome_kept (outcomes.Number n) old new counted = omega (arith, counted)
outcome_kept (outcomes.Digest d) old new counted = omega (arith, counted)
outcome_kept outcomes.NotThere old new counted = omega (arith, counted)
outcome_kept outcomes.TooLong old new counted = omega (arith, counted)
outcome_kept outcomes.NoMemory old new counted = omega (arith, counted)
outcome_kept outcomes.Skipped old new counted = omega (arith, counted)

-- and it rises at a fault
pub fault_rises : (o : Outcome) (old new : ℕ) → IsOutcomeCounted old new o → o ≡ outcomes.Fault → Rises old new
fault_rises outcomes.Fault old new counted is = let e = next_rises old in omega (arith, counted)
fault_rises (outcomes.Number n) old new counted is = absurd (cc)
fault_rises (outcomes.Digest d) old new counted is = absurd (cc)
fault_rises outcomes.NotThere old new counted is = absurd (cc)
fault_rises outcomes.TooLong old new counted is = absurd (cc)
fault_rises outcomes.NoMemory old new counted is = absurd (cc)
fault_rises outcomes.Skipped old new counted is = absurd (cc)
