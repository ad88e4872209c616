-- A pass that asked agrees with what it saw before.
use Rattle.std.proofs.Common.{◌≡◌, ◌≢◌, false, Result, Ok, Err, refl, sym, subst}
use Rattle.std.specs.Prelude.{IfOk}
use Rattle.lock_journal.specs.Names.{WorkerId, BookView}
use Rattle.coordination.specs.Names.{Agrees, AskedInVain, IsAnswered, AreTold, Telling}
use Rattle.coordination.specs.declared.halts.Halt.{Halt}
use Rattle.coordination.specs.declared.halts.Halt.TheVariants.{NoMemory, Stopped}
use Rattle.coordination.specs.declared.rule.Sight.{Sight}

-- what a service tells that has no offers
abbrev pub NothingTold : Telling
NothingTold = AreTold {O = Unit {0}} (λ offers book queued. queued ≡ false)

-- a question leaves a book that agrees with what was seen, whatever it comes to
pub ask_agrees : {A : Type 0} (answers : WorkerId → BookView → A → Type 0) (waits : WorkerId → BookView → Type 0) (old new : Sight) (r : Result A Halt)
    → IfOk r (λ a. IsAnswered answers a old new) → ((by : WorkerId) → r ≡ Err (Stopped by) → AskedInVain waits by old new) → r ≢ Err NoMemory → Agrees old.worker old.seen new.seen
ask_agrees answers waits old new (Ok a) answered stopped memory = subst (λ (s : Sight). Agrees old.worker old.seen s.seen) (sym answered.sight) answered.found.agrees
ask_agrees answers waits old new (Err (Stopped by)) answered stopped memory = let vain = stopped by refl in subst (λ (s : Sight). Agrees old.worker old.seen s.seen) (sym vain.sight) vain.found.agrees
ask_agrees answers waits old new (Err NoMemory) answered stopped memory = absurd (memory refl)
