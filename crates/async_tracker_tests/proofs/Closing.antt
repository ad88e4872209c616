-- Whether a worker still runs an item that it was to close.
use Rattle.std.proofs.Common.{◌≡◌, ◌≢◌, List, [], ◌∷◌, Option, Result, Err, sym, ap, ◌∙◌, subst}
use Rattle.std.specs.Prelude.{Contains}
use Rattle.std.specs.List.{AllByRecursion}
use Rattle.std.proofs.lemmas.List.{get_or-set_same}
use Rattle.item_actions.specs.declared.outcomes.Outcome.{Outcome}
use Rattle.item_actions.specs.declared.outcomes.Outcome.TheVariants as outcomes
use Rattle.lock_journal.specs.Names.{NamesOnly, make_all, StateView, mark_of, Change, Give, Move, WorkerId, Running, Waiting, MarkId, UnitOf}
use Rattle.lock_journal.specs.Names.{IsFixedList, mark_from, Closed, Close, BookView, claimed}
use Rattle.lock_journal.proofs.lemmas.Claims.{unit_runs}
use Rattle.coordination.specs.Names.{AskedInVain, HasFinished, HasLooked, CouldNotStep, claimed_shown}
use Rattle.coordination.specs.declared.halts.Halt.{Halt}
use Rattle.coordination.specs.declared.halts.Halt.TheVariants.{NoMemory, Stopped}
use Rattle.coordination.specs.declared.rule.Sight.{Sight}
use Rattle.coordination.proofs.lemmas.Shown.{looked_shows}
use Rattle.async_tracker.specs.Closings.{HasClosedThen}
use Rattle.async_tracker.specs.declared.closing.CloseHalt.{CloseHalt}
use Rattle.async_tracker.specs.declared.closing.CloseHalt.TheVariants.{Closed as ClosedThen}

ended : (w : WorkerId) (o : Outcome) → mark_from o ≢ Running w
ended w (outcomes.Number n) is = cc
ended w (outcomes.Digest d) is = cc
ended w outcomes.NotThere is = cc
ended w outcomes.TooLong is = cc
ended w outcomes.Fault is = cc
ended w outcomes.NoMemory is = cc
ended w outcomes.Skipped is = cc

closed_mark : (s : StateView) (w : WorkerId) (c : Closed) (cs : List Change) → cs ≡ Move (UnitOf c.unit) (Running w) (mark_from c.outcome) ∷ Give ∷ [] → AllByRecursion (NamesOnly s) cs
    → mark_of (make_all s w cs) (UnitOf c.unit) ≡ mark_from c.outcome
closed_mark s w c cs is named =
    let within = (subst (AllByRecursion (NamesOnly s)) is named).0 in
    ap (λ (ds : List Change). mark_of (make_all s w ds) (UnitOf c.unit)) is ∙ get_or-set_same s.units c.unit (mark_from c.outcome) Waiting within

-- the worker that closed an item doesn't run it
closed_not_claimed : (c : Closed) (old new : Sight) → HasFinished (Close c) (IsFixedList (Close c)) old new → Contains (claimed_shown new) (UnitOf c.unit) → ⊥
closed_not_claimed c old new f there =
    let w : WorkerId = old.worker in
    let mark : mark_of f.after.state (UnitOf c.unit) ≡ mark_from c.outcome =
    ap (λ (s : StateView). mark_of s (UnitOf c.unit)) f.finished.state ∙ closed_mark f.before.state w c f.changes f.finished.made f.finished.allowed.finished.named in
    let here : Contains (claimed f.after.state w) (UnitOf c.unit) = subst (λ (k : Sight). Contains (claimed_shown k) (UnitOf c.unit)) f.sight there in
    ended w c.outcome (sym mark ∙ unit_runs f.after.state w c.unit here)

has_run : (c : Closed) (old new : Sight) (Follows : Sight → Type 0) → HasClosedThen c old Follows → ((between : Sight) → Follows between → claimed_shown new ≡ claimed_shown between) → Contains (claimed_shown new) (UnitOf c.unit) → ⊥
has_run c old new Follows k same there = closed_not_claimed c old k.between k.closed (subst (λ (ms : List MarkId). Contains ms (UnitOf c.unit)) (same k.between k.follows) there)

in_vain_shows : {waits : WorkerId → BookView → Type 0} {by : WorkerId} {old new : Sight} → AskedInVain waits by old new → claimed_shown new ≡ claimed_shown old
in_vain_shows v = ap claimed_shown v.sight ∙ v.found.agrees.state.claimed

-- it runs the item yet where nothing was closed
pub runs_yet : (u : MarkId) {old new : Sight} → HasLooked old new → Contains (claimed_shown old) u → Contains (claimed_shown new) u
runs_yet u looked there = subst (λ (ms : List MarkId). Contains ms u) (sym (looked_shows looked).claimed) there

-- it doesn't where the item was closed, though the decision behind that came to nothing
pub ran : {A X T : Type 0} (answers : WorkerId → BookView → A → Type 0) (waits : WorkerId → BookView → Type 0) (step_of : A → Option X) (c : Closed) (old new : Sight) (r : Result T CloseHalt) (halt : Halt) → r ≡ Err (ClosedThen halt)
    → (r ≡ Err (ClosedThen NoMemory) → HasClosedThen c old (λ s. CouldNotStep answers step_of s new)) → ((by : WorkerId) → r ≡ Err (ClosedThen (Stopped by)) → HasClosedThen c old (λ s. AskedInVain waits by s new))
    → Contains (claimed_shown new) (UnitOf c.unit) → ⊥
ran answers waits step_of c old new r NoMemory is memory stopped = has_run c old new (λ s. CouldNotStep answers step_of s new) (memory is) (λ s step. (looked_shows step.looked).claimed)
ran answers waits step_of c old new r (Stopped by) is memory stopped = has_run c old new (λ s. AskedInVain waits by s new) (stopped by is) (λ s vain. in_vain_shows vain)
