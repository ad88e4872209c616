-- The count of faults, by what a daemon answered.
use Rattle.std.proofs.Common.{◌≡◌, ◌≢◌, ℕ, Result, Ok, Err, refl, subst, sym}
use Rattle.std.specs.Prelude.{IfErr}
use Rattle.item_actions.specs.declared.outcomes.Outcome.{Outcome}
use Rattle.item_actions.specs.declared.outcomes.Outcome.TheVariants as outcomes
use Rattle.file_access.specs.ReadView.{IsFaultCounted, IsOutcomeCounted}
use Rattle.file_access.specs.declared.files.DeskFail.{DeskFail}
use Rattle.file_access.specs.declared.files.DeskFail.TheVariants as fails

-- an outcome that is no fault leaves the count as it is
pub no_fault_counted : (o : Outcome) (old new : ℕ) → o ≢ outcomes.Fault → new ≡ old → IsOutcomeCounted old new o
no_fault_counted outcomes.Fault old new worked same = absurd (worked refl)
no_fault_counted (outcomes.Number n) old new worked same = same
no_fault_counted (outcomes.Digest d) old new worked same = same
no_fault_counted outcomes.NotThere old new worked same = same
no_fault_counted outcomes.TooLong old new worked same = same
no_fault_counted outcomes.NoMemory old new worked same = same
no_fault_counted outcomes.Skipped old new worked same = same

-- and so does a call that fails for want of memory alone
pub no_memory_counted : {T : Type 0} (r : Result T DeskFail) (old new : ℕ) → IfErr r (λ fail. fail ≡ fails.NoMemory) → new ≡ old → IsFaultCounted old new r
no_memory_counted (Ok x) old new memory same = same
no_memory_counted {T = T} (Err fail) old new memory same = subst (λ (f : DeskFail). IsFaultCounted {A = T} old new (Err f)) (sym memory) same
