-- What was given back stays that of the pass while others make entries.
use Rattle.std.proofs.Common.{◌≡◌, ◌≢◌, Result, Ok, Err, refl, sym, ap, ◌∙◌, subst}
use Rattle.std.specs.Prelude.{IfOk}
use Rattle.lock_journal.specs.Names.{Holding, stands_in, WorkerId, BookView}
use Rattle.coordination.specs.Names.{Agrees, AskedInVain, IsAnswered}
use Rattle.coordination.specs.declared.halts.Halt.{Halt}
use Rattle.coordination.specs.declared.halts.Halt.TheVariants.{NoMemory, Stopped}
use Rattle.coordination.specs.declared.rule.Sight.{Sight}
use Rattle.blocking_section.specs.BlockedView.{BlockedView}
use Rattle.blocking_section.specs.Sections.{HasUnit, IsGivenBackBy}

at_book : (s : Sight) (book : BookView) (w : WorkerId) (b : BlockedView) → w ≡ s.worker → Agrees s.worker s.seen book → IsGivenBackBy s b → IsGivenBackBy (record s { seen = book }) b
at_book s book w b is agrees own = record {
  worker = own.worker;
  blocked = ap (λ (h : Holding). h.blocked) agrees.state.holding ∙ own.blocked;
  locks = λ l there. ap (λ (h : Holding). stands_in l h.parked) agrees.state.holding ∙ own.locks l there;
  unit = subst (HasUnit b.unit) (sym agrees.state.claimed) own.unit;
}

pub given_back_stays : (s t : Sight) (b : BlockedView) → t.worker ≡ s.worker → Agrees s.worker s.seen t.seen → IsGivenBackBy s b → IsGivenBackBy t b
given_back_stays s t b same agrees own =
    let there = at_book s t.seen s.worker b refl agrees own in
    let moved : IsGivenBackBy (record s { worker = t.worker; seen = t.seen }) b = subst (λ (w : WorkerId). IsGivenBackBy (record s { worker = w; seen = t.seen }) b) (sym same) there in
    record { worker = moved.worker; blocked = moved.blocked; locks = moved.locks; unit = moved.unit }

-- a question leaves a book that agrees with what was seen, whatever it comes to
pub ask_agrees : {A : Type 0} (answers : WorkerId → BookView → A → Type 0) (waits : WorkerId → BookView → Type 0) (old new : Sight) (r : Result A Halt)
    → IfOk r (λ a. IsAnswered answers a old new) → ((by : WorkerId) → r ≡ Err (Stopped by) → AskedInVain waits by old new) → r ≢ Err NoMemory → Agrees old.worker old.seen new.seen
ask_agrees answers waits old new (Ok a) answered stopped memory = subst (λ (s : Sight). Agrees old.worker old.seen s.seen) (sym answered.sight) answered.found.agrees
ask_agrees answers waits old new (Err (Stopped by)) answered stopped memory = let vain = stopped by refl in subst (λ (s : Sight). Agrees old.worker old.seen s.seen) (sym vain.sight) vain.found.agrees
ask_agrees answers waits old new (Err NoMemory) answered stopped memory = absurd (memory refl)
