-- What a claim of the lowest queued unit does.
use Rattle.std.proofs.Common.{◌≡◌, ◌||◌, Bool, true, false, subst}
use Rattle.std.specs.Prelude.{ℕ, nat_lt}
use Rattle.std.proofs.lemmas.Bool.{and_parts, true≢false}
use Rattle.lock_journal.specs.Names.{Fits, StateView, leases_out, mark_of, can_lease, Queued, UnitOf, BookView}
use Rattle.lock_journal.specs.Names.{is_enabled, Claim}
use Rattle.ready_work.specs.Choices.{IsQueued}
use Rattle.lock_journal.proofs.Queue.{queued_is_item}
use Rattle.worker_choices.specs.NextSteps.{can_claim}
use Rattle.worker_notes.specs.Agrees.{Finds}
use Rattle.coordination.specs.declared.rule.Sight.{Sight}
use Rattle.async_tracker.specs.Shows.{IsFree, IsIdleOrParked}
use Rattle.async_tracker.proofs.Claiming.{claim_enabled, may_claim}

lease_free : (lease free : Bool) → (lease || free) ≡ true → lease ≡ false → free ≡ true
lease_free true free some none = absurd (true≢false none)
lease_free false free some none = some

-- The claim of the lowest queued unit neither fails nor waits, on the book that the choice was made of.
pub claims_at_once : (old : Sight) (book : BookView) (u : ℕ) (queued : Bool) → Fits book.graph → Finds old.worker old.seen book → IsFree old → IsIdleOrParked old → can_claim old.worker book.state queued ≡ true → IsQueued book.graph book.state u
    → is_enabled book.graph book.state old.worker (Claim u) ≡ true
claims_at_once old book u queued fits found free waits pops q =
    let may = may_claim old book found free waits in
    let there = subst (λ (s : StateView). mark_of s (UnitOf u) ≡ Queued) found.sound.replays q.queued in
    claim_enabled book.graph book.state old.worker u (queued_is_item book.graph book.history u fits found.sound.lawful there) q.queued may
    (lease_free _ (nat_lt (leases_out book.state) book.state.max_leases) (and_parts queued (can_lease book.state old.worker) pops).1 may.lease)
