-- What a claim waits for.
use Rattle.std.proofs.Common.{◌≡◌, ℕ, ◌<◌, false, refl, sym, ◌∙◌, subst}
use Rattle.std.specs.Prelude.{nat_lt}
use Rattle.std.proofs.lemmas.Bool.{false≢true, false_from_ne_true}
use Rattle.lock_journal.specs.Names.{GraphView, leases_out, mark_of, Queued, UnitOf, BookView, is_enabled, Claim}
use Rattle.coordination.specs.Names.{Finds}
use Rattle.coordination.specs.declared.rule.Sight.{Sight}
use Rattle.async_tracker.specs.Shows.{IsFree, IsIdleOrParked, IsItemHere}
use Rattle.async_tracker.proofs.Claiming.{claim_enabled, may_claim}
use Rattle.single_steps.specs.Waits.{NeedsLease}

-- a claim waits for a lease alone
pub claim_needs_lease : (old : Sight) (book : BookView) (u : ℕ) → Finds old.worker old.seen book → IsItemHere old.seen.graph u → IsFree old → IsIdleOrParked old
    → (u < book.graph.units → (mark_of book.state (UnitOf u) ≡ Queued) × (is_enabled book.graph book.state old.worker (Claim u) ≡ false)) → NeedsLease u book.graph old.worker book.state
claim_needs_lease old book u found item free rests waits =
    let graph : old.seen.graph ≡ book.graph = sym found.agrees.graph in
    let here : IsItemHere book.graph u = subst (λ (g : GraphView). IsItemHere g u) graph item in
    let why = waits here.in_range in
    let may = may_claim old book found free rests in
    let none : nat_lt (leases_out book.state) book.state.max_leases ≡ false = false_from_ne_true _ (λ some. false≢true (sym why.1 ∙ claim_enabled book.graph book.state old.worker u here.item why.0 may some)) in
    (why.0, rw (may.lease, none) refl)
