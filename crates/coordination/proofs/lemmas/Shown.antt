-- What a pass shows after a call, by what it showed before.
use Rattle.std.proofs.Common.{◌≡◌, Bool, true, false, List, refl, ap, ◌∙◌, subst}
use Rattle.lock_journal.specs.Names.{holding_after, Holding, IsWorkerOf, StateView, holding_of, Change, LockId, WorkerId, MarkId, BookView, owned}
use Rattle.lock_journal.specs.Names.{Kind, claimed, after_all, claimed_after, locks_after}
use Rattle.resource_lock.proofs.lemmas.Runs.{worker_from}
use Rattle.lock_journal.proofs.lemmas.OwnChanges.{own_claimed_all, own_holding_all, own_locks_all}
use Rattle.coordination.specs.Names.{Agrees, Cause, Making, HasFailed, HasFinished, HasLooked, IsAnswered, WasStopped, Shows, ShowsTheSame}
use Rattle.coordination.specs.Names.{blocked_shown, claimed_shown, locks_shown}
use Rattle.coordination.specs.declared.rule.Sight.{Sight}
use Rattle.worker_notes.proofs.lemmas.Entries.{belongs_sound}

-- The graph and the worker are the same, and the changes say what the worker has, owns and runs afterwards.
pub record ShowsAfter (old new : Sight) (cs : List Change) : Type 0 where
  pub worker : new.worker ≡ old.worker
  pub graph : new.seen.graph ≡ old.seen.graph
  pub holding : holding_of new.seen.state new.worker ≡ after_all holding_after (holding_of old.seen.state old.worker) cs
  pub locks : locks_shown new ≡ after_all locks_after (locks_shown old) cs
  pub claimed : claimed_shown new ≡ after_all (claimed_after old.worker) (claimed_shown old) cs

-- an entry of the worker's own that made these changes
pub shows_after : {kind : Kind} {makes : Making} {old new : Sight} {cs : List Change} (f : HasFinished kind makes old new) → f.changes ≡ cs → ShowsAfter old new cs
shows_after {old = old} {new} f made =
    let w : WorkerId = old.worker in
    let s : StateView = f.before.state in
    let a = f.found.agrees in
    let fin = f.finished.allowed.finished in
    let known : IsWorkerOf s w = worker_from f.before.graph s w (belongs_sound f.before f.found.sound) f.found.known in
    subst (ShowsAfter old new) made record {
      worker = ap (λ (k : Sight). k.worker) f.sight;
      graph = ap (λ (k : Sight). k.seen.graph) f.sight ∙ (f.graph ∙ a.graph);
      holding =
          ap (λ (k : Sight). holding_of k.seen.state k.worker) f.sight
          ∙ (ap (λ (t : StateView). holding_of t w) f.finished.state
          ∙ (own_holding_all s w f.changes known ∙ ap (λ (h : Holding). after_all holding_after h f.changes) a.state.holding));
      locks =
          ap locks_shown f.sight
          ∙ (ap (λ (t : StateView). owned t w) f.finished.state
          ∙ (own_locks_all s w f.changes fin.named fin.possible ∙ ap (λ (ls : List LockId). after_all locks_after ls f.changes) a.state.owned));
      claimed =
          ap claimed_shown f.sight
          ∙ (ap (λ (t : StateView). claimed t w) f.finished.state
          ∙ (own_claimed_all s w f.changes fin.named fin.possible ∙ ap (λ (ms : List MarkId). after_all (claimed_after w) ms f.changes) a.state.claimed));
    }

-- What the changes leave of the lease, the locks, the claimed marks and the parked locks, while they neither enter nor leave a blocking section.
pub record Leaves (own : List LockId) (leased : Bool) (marks : List MarkId) (put_by : List LockId) (old : Sight) (cs : List Change) : Type 0 where
  pub holding : after_all holding_after (holding_of old.seen.state old.worker) cs ≡ record { lease = leased; parked = put_by; blocked = blocked_shown old }
  pub locks : after_all locks_after (locks_shown old) cs ≡ own
  pub claimed : after_all (claimed_after old.worker) (claimed_shown old) cs ≡ marks

-- so the pass shows it
pub shows_left : {kind : Kind} {makes : Making} {old new : Sight} {own : List LockId} {leased : Bool} {marks : List MarkId} {put_by : List LockId} {cs : List Change} (f : HasFinished kind makes old new)
    → f.changes ≡ cs → Leaves own leased marks put_by old cs → Shows own leased marks put_by old new
shows_left f made leaves =
    let after = shows_after f made in
    let holding = after.holding ∙ leaves.holding in record {
      worker = after.worker;
      graph = after.graph;
      locks = after.locks ∙ leaves.locks;
      lease = ap (λ (h : Holding). h.lease) holding;
      claimed = after.claimed ∙ leaves.claimed;
      parked = ap (λ (h : Holding). h.parked) holding;
      blocked = ap (λ (h : Holding). h.blocked) holding;
    }

-- a pass that has seen the graph and the state of a book that it agrees with shows the same
shows_agreed : {old new : Sight} {book : BookView} → Agrees old.worker old.seen book → new.worker ≡ old.worker → new.seen.graph ≡ book.graph → new.seen.state ≡ book.state → ShowsTheSame old new
shows_agreed agrees worker graph state =
    let same = agrees.state in record {
      worker = worker;
      graph = graph ∙ agrees.graph;
      locks = (λ i. owned (state i) (worker i)) ∙ same.owned;
      lease = (λ i. (holding_of (state i) (worker i)).lease) ∙ ap (λ (h : Holding). h.lease) same.holding;
      claimed = (λ i. claimed (state i) (worker i)) ∙ same.claimed;
      parked = (λ i. (holding_of (state i) (worker i)).parked) ∙ ap (λ (h : Holding). h.parked) same.holding;
      blocked = (λ i. (holding_of (state i) (worker i)).blocked) ∙ ap (λ (h : Holding). h.blocked) same.holding;
    }

pub looked_shows : {old new : Sight} → HasLooked old new → ShowsTheSame old new
looked_shows f = shows_agreed f.found.agrees (ap (λ (k : Sight). k.worker) f.sight) (ap (λ (k : Sight). k.seen.graph) f.sight) (ap (λ (k : Sight). k.seen.state) f.sight)

pub stopped_shows : {cause : Cause} {by : WorkerId} {old new : Sight} → WasStopped cause by old new → ShowsTheSame old new
stopped_shows f = shows_agreed f.found.agrees (ap (λ (k : Sight). k.worker) f.sight) (ap (λ (k : Sight). k.seen.graph) f.sight) (ap (λ (k : Sight). k.seen.state) f.sight)

pub answered_shows : {A : Type 0} {answers : WorkerId → BookView → A → Type 0} {a : A} {old new : Sight} → IsAnswered answers a old new → ShowsTheSame old new
answered_shows f = shows_agreed f.found.agrees (ap (λ (k : Sight). k.worker) f.sight) (ap (λ (k : Sight). k.seen.graph) f.sight) (ap (λ (k : Sight). k.seen.state) f.sight)

-- a failed entry changes no state
pub failed_shows : {kind : Kind} {fails : Cause} {old new : Sight} → HasFailed kind fails old new → ShowsTheSame old new
failed_shows f = shows_agreed f.found.agrees (ap (λ (k : Sight). k.worker) f.sight) (ap (λ (k : Sight). k.seen.graph) f.sight ∙ f.graph) (ap (λ (k : Sight). k.seen.state) f.sight ∙ f.failed.state)

-- the same stop with another cause that held there
pub stopped_for : {cause other : Cause} {by : WorkerId} {old new : Sight} (stopped : WasStopped cause by old new) → other stopped.book.graph old.worker stopped.book.state → WasStopped other by old new
stopped_for stopped held = record { book = stopped.book; found = stopped.found; cause = held; stopper = stopped.stopper; sight = stopped.sight }

-- a transform that never fails has finished
pub surely_finished : {kind : Kind} {makes : Making} {old new : Sight} (b : Bool) → (b ≡ true → HasFinished kind makes old new) → (b ≡ false → HasFailed kind (λ g w s. ⊥) old new) → HasFinished kind makes old new
surely_finished true f g = f refl
surely_finished false f g = absurd (g refl).failed.cause
