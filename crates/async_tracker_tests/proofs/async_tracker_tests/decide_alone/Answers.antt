use Rattle.std.proofs.Common.{◌≡◌, ℕ}
use Rattle.lock_journal.specs.Names.{WorkerId, BookView}
use Rattle.worker_notes.specs.Offered.{AsTold}
use Rattle.coordination.specs.declared.decisions.Decided.{Decided}
use Rattle.coordination.specs.declared.rule.Sight.{Sight}
use Rattle.async_tracker.specs.NextWork.{IsNextWorkIf, next_of}
use Rattle.async_tracker.specs.declared.next_work.NextWork.{NextWork}
use Rattle.async_tracker.specs.declared.next_work.NextWork.TheVariants as next
use Rattle.async_tracker.proofs.lemmas.After.{if_ok}
use Rattle.async_tracker.proofs.lemmas.NextWork.{DecidesWork, answered_in}
use Rattle.coordination_tests.proofs.Agreeing.{NothingTold}
use Rattle.async_tracker_tests.proofs.async_tracker_tests.decide_alone.Goals as goal

-- an item is gone for only where one is offered
none_beside : (w : WorkerId) (book : BookView) (n : NextWork) → n ≡ next.Beside → AsTold NothingTold IsNextWorkIf w book n → ⊥
none_beside w book next.Beside is h = let none = h.1.1 in let can = h.2.0 in absurd (cc)
none_beside w book (next.Claim u) is h = absurd (cc)
none_beside w book (next.Skip t) is h = absurd (cc)
none_beside w book (next.Start t) is h = absurd (cc)
none_beside w book next.Finish is h = absurd (cc)

none_claimed : (w : WorkerId) (book : BookView) (u : ℕ) (n : NextWork) → n ≡ next.Claim u → AsTold NothingTold IsNextWorkIf w book n → ⊥
none_claimed w book u (next.Claim v) is h = let none = h.1.1 in let can = h.2.0 in absurd (cc)
none_claimed w book u next.Beside is h = absurd (cc)
none_claimed w book u (next.Skip t) is h = absurd (cc)
none_claimed w book u (next.Start t) is h = absurd (cc)
none_claimed w book u next.Finish is h = absurd (cc)

never : (old new : Sight) (d : Decided NextWork) → ((w : WorkerId) (book : BookView) → AsTold NothingTold IsNextWorkIf w book (next_of d) → ⊥) → DecidesWork NothingTold old new d → ⊥
never old new d none done = let at = answered_in NothingTold old new d done in none old.worker at.0 at.2

pub returns-clause-beside : goal.returns-clause-beside
returns-clause-beside g c = λ is.
    let d = c.in_ok-decided.decided in
    let done = if_ok (DecidesWork NothingTold c.args.pass.now.sight c.decide.new.pass.sight) c.decide.result d c.in_ok-decided.was c.decide.ensures.decided in
    never c.args.pass.now.sight c.decide.new.pass.sight d (λ w book. none_beside w book (next_of d) (let says = c.next_work_of.ensures in cc)) done

pub returns-clause-claims : goal.returns-clause-claims
returns-clause-claims g c = λ unit is.
    let d = c.in_ok-decided.decided in
    let done = if_ok (DecidesWork NothingTold c.args.pass.now.sight c.decide.new.pass.sight) c.decide.result d c.in_ok-decided.was c.decide.ensures.decided in
    never c.args.pass.now.sight c.decide.new.pass.sight d (λ w book. none_claimed w book unit (next_of d) (let says = c.next_work_of.ensures in cc)) done
