-- What one try of a turn leaves, of a book whose own queued units are offered.
use Rattle.std.proofs.Common.{◌≡◌, ◌≢◌, ◌<◌, Bool, true, false, Option, inl, inr, refl, sym, ap, ◌∙◌, subst}
use Rattle.lock_journal.specs.Names.{GraphView, WorkerId, BookView, Kind}
use Rattle.coordination.specs.Names.{Finds, IsSoundBook, Cause, Making, IsAnswered, DecideGives, HadStep, HasDecided, AsTold, WaitsAsTold, TellsOwn}
use Rattle.coordination.specs.Names.{FollowGives, HasDecidedBehind, HasFollowed, decided_of, AskGives, HasTurned, RunGives}
use Rattle.coordination.specs.declared.decisions.Decided.{Decided}
use Rattle.coordination.specs.declared.decisions.Decided.TheVariants as decided
use Rattle.coordination.specs.declared.decisions.Followed.{Followed}
use Rattle.coordination.specs.declared.decisions.Followed.TheVariants as followed
use Rattle.coordination.specs.declared.rule.Sight.{Sight}
use Rattle.coordination.specs.declared.turns.Came.{Came}
use Rattle.coordination.specs.declared.turns.Came.TheVariants as came
use Rattle.coordination.proofs.Calls.{has_decided, has_finished, has_followed, is_answered}
use Rattle.coordination.proofs.TurnAfterTurn.{done_on, looked_not, no_memory_on}
use Rattle.worker_notes.proofs.lemmas.Growing.{agrees_same, agrees_then}
use Rattle.planned_work.specs.Trying.{DecisionLeaves, FollowLeaves, HasToWaitFor, InBook, NeverFailed, NeverHappens, OfBook, RunLeaves, WaitsOfBook, behind_of, ran_of, tried_of}

-- the graph stays
pub turned_graph : {C : Type 0} (gives : WorkerId → BookView → BookView → C → Type 0) (waits runs : WorkerId → BookView → Type 0) (s s' : Sight) (r : Came C) → HasTurned gives waits runs s s' r → s'.seen.graph ≡ s.seen.graph
turned_graph gives waits runs s s' r h = ap (λ (k : Sight). k.seen.graph) h.sight ∙ (h.graph ∙ h.found.agrees.graph)

-- a book that was left as it was found is found again
pub found_again : (w : WorkerId) (seen before after : BookView) → Finds w seen before → after.graph ≡ before.graph → after.state ≡ before.state → after.history ≡ before.history → IsSoundBook after → Finds w seen after
found_again w seen before after f graph state history sound = record {
  agrees = agrees_then w seen before after f.agrees (agrees_same w before after graph state history);
  sound = sound;
  known = subst (λ (g : GraphView). w.0 < g.workers) (sym graph) f.known;
}

-- a turn that is to be had again waits for a cause of the book that was found
pub has_to_wait : {C : Type 0} (gives : WorkerId → BookView → BookView → C → Type 0) (waits runs : WorkerId → BookView → Type 0) (s s' : Sight) → HasTurned gives waits runs s s' came.Again → HasToWaitFor waits s s'
has_to_wait gives waits runs s s' h = record { book = h.after; found = let u = h.leaves.1 in found_again s.worker s.seen h.before h.after h.found u.graph u.state u.history h.left; cause = h.leaves.0; sight = h.sight }

pub waits_for : (waits others : WorkerId → BookView → Type 0) (s s' : Sight) → ((w : WorkerId) (book : BookView) → waits w book → others w book) → HasToWaitFor waits s s' → HasToWaitFor others s s'
waits_for waits others s s' f h = record { book = h.book; found = h.found; cause = f s.worker h.book h.cause; sight = h.sight }

-- what the book's own offers told is what it has
pub own_answer : {A : Type 0} (answers : Bool → WorkerId → BookView → A → Type 0) (w : WorkerId) (book : BookView) (a : A) → AsTold TellsOwn answers w book a → OfBook answers w book a
own_answer answers w book a h = subst (λ (b : Bool). answers b w book a) h.1.1 h.2

pub own_wait : (waits : Bool → WorkerId → BookView → Type 0) (w : WorkerId) (book : BookView) → WaitsAsTold TellsOwn waits w book → WaitsOfBook waits w book
own_wait waits w book h = subst (λ (b : Bool). waits b w book) h.1.1 h.2

module _ {A X : Type 0} (answers others : WorkerId → BookView → A → Type 0) (step_of : A → Option X) (kind_of : X → Kind) (makes : X → Making) (fails retries : X → Cause)
    (f : (w : WorkerId) (book : BookView) (a : A) → answers w book a → others w book a) where
  pub had_step : (w : WorkerId) (book : BookView) → HadStep answers step_of w book → HadStep others step_of w book
  had_step w book h = (h.0, h.1, h.2, record { answer = f w h.0 h.2 h.3.answer; step = h.3.step; is = h.3.is; left = tt })

  -- a decision by answers that say so much is one by those that follow of them
  pub decided_so : (s s' : Sight) (d : Decided A) → HasDecided answers step_of kind_of makes fails retries s s' d → HasDecided others step_of kind_of makes fails retries s s' d
  decided_so s s' (decided.Answered a) h = (record { book = h.0.book; found = h.0.found; answer = f s.worker h.0.book a h.0.answer; sight = h.0.sight }, h.1)
  decided_so s s' (decided.Entered a true) h = record { step = h.step; is = h.is; finished = h.finished; answer = f s.worker h.finished.before a h.answer }
  decided_so s s' (decided.Entered a false) h = record { step = h.step; is = h.is; failed = h.failed; answer = f s.worker h.failed.before a h.answer }
  decided_so s s' (decided.Waiting a) h =
      record { step = h.step; is = h.is; before = h.before; after = h.after; found = h.found; answer = f s.worker h.before a h.answer; graph = h.graph; unchanged = h.unchanged; sight = h.sight }

  -- of the same book
  same_decided : (s s' : Sight) (d : Decided A) (h : HasDecided answers step_of kind_of makes fails retries s s' d)
      → decided_of others step_of kind_of makes fails retries s s' d (decided_so s s' d h) ≡ decided_of answers step_of kind_of makes fails retries s s' d h
  unfolding decided_so
  same_decided s s' (decided.Answered a) h = refl
  same_decided s s' (decided.Entered a true) h = refl
  same_decided s s' (decided.Entered a false) h = refl
  same_decided s s' (decided.Waiting a) h = refl

  pub behind_so : (kind : Kind) (making : Making) (s s' : Sight) (d : Decided A) → HasDecidedBehind answers step_of kind_of makes fails retries kind making s s' d → HasDecidedBehind others step_of kind_of makes fails retries kind making s s' d
  behind_so kind making s s' d h = record { between = h.between; finished = h.finished; decided = decided_so h.between s' d h.decided; at_once = same_decided h.between s' d h.decided ∙ h.at_once }

module _ {A X : Type 0} (answers : Bool → WorkerId → BookView → A → Type 0) (waits : Bool → WorkerId → BookView → Type 0) (step_of : A → Option X) (kind_of : X → Kind) (makes : X → Making) (fails retries : X → Cause) (s s' : Sight) where
  -- a decision that was tried
  pub tried_leaves : (c : Came (Decided A)) → HasTurned (DecideGives (AsTold TellsOwn answers) step_of kind_of makes fails retries) (WaitsAsTold TellsOwn waits) (HadStep (AsTold TellsOwn answers) step_of) s s' c
      → DecisionLeaves answers waits step_of kind_of makes fails retries s s' (tried_of c)
  tried_leaves (came.Done d) h =
      decided_so (AsTold TellsOwn answers) (OfBook answers) step_of kind_of makes fails retries (own_answer answers) s s' d
      (has_decided (AsTold TellsOwn answers) step_of kind_of makes fails retries s s' d
      (done_on (DecideGives (AsTold TellsOwn answers) step_of kind_of makes fails retries) (WaitsAsTold TellsOwn waits) (HadStep (AsTold TellsOwn answers) step_of) s s s' (looked_not s) d h))
  tried_leaves came.NoMemory h = (no_memory_on (DecideGives (AsTold TellsOwn answers) step_of kind_of makes fails retries) (WaitsAsTold TellsOwn waits) (HadStep (AsTold TellsOwn answers) step_of) s s s' (looked_not s) h).0
  tried_leaves came.Again h =
      waits_for (WaitsAsTold TellsOwn waits) (WaitsOfBook waits) s s' (own_wait waits)
      (has_to_wait (DecideGives (AsTold TellsOwn answers) step_of kind_of makes fails retries) (WaitsAsTold TellsOwn waits) (HadStep (AsTold TellsOwn answers) step_of) s s' h)

  module _ (kind : Kind) (making : Making) (failing retrying : Cause) where
    abbrev pub Follows : Came (Followed A) → Type 0
    Follows c = HasTurned (FollowGives (AsTold TellsOwn answers) (WaitsAsTold TellsOwn waits) step_of kind_of makes fails retries kind making failing) (InBook retrying) (λ w book. Unit {0}) s s' c

    followed_on : (c : Followed A) → Follows (came.Done c) → HasFollowed (AsTold TellsOwn answers) (WaitsAsTold TellsOwn waits) step_of kind_of makes fails retries kind making failing s s' c
    followed_on c h =
        has_followed (AsTold TellsOwn answers) step_of kind_of makes fails retries (WaitsAsTold TellsOwn waits) kind making failing s s' c
        (done_on (FollowGives (AsTold TellsOwn answers) (WaitsAsTold TellsOwn waits) step_of kind_of makes fails retries kind making failing) (InBook retrying) (λ w book. Unit {0}) s s s' (looked_not s) c h)

    -- a transform that never fails doesn't
    pub never_failed : (c : Came (Followed A)) → NeverHappens failing → Follows c → NeverFailed c
    never_failed c never h is = failed_not (subst Follows is h)
      where
        failed_not : Follows (came.Done followed.Failed) → ⊥
        failed_not f = let g = followed_on followed.Failed f in never g.before.graph s.worker g.before.state g.failed.cause

    -- a transform that never fails, with a decision behind it, that were tried
    pub behind_leaves : (c : Came (Followed A)) → NeverFailed c → Follows c → FollowLeaves answers waits step_of kind_of makes fails retries kind making retrying s s' (behind_of c)
    behind_leaves (came.Done (followed.Decided d)) never h =
        behind_so (AsTold TellsOwn answers) (OfBook answers) step_of kind_of makes fails retries (own_answer answers) kind making s s' d (followed_on (followed.Decided d) h)
    behind_leaves (came.Done followed.Undecided) never h = let g = followed_on followed.Undecided h in record { finished = g.0; why = inl (own_wait waits s'.worker s'.seen g.1) }
    behind_leaves (came.Done followed.NoMemory) never h =
        let g = followed_on followed.NoMemory h in record { finished = g.0; why = inr (had_step (AsTold TellsOwn answers) (OfBook answers) step_of kind_of makes fails retries (own_answer answers) s'.worker s'.seen g.1) }
    behind_leaves (came.Done followed.Failed) never h = absurd (never refl)
    behind_leaves came.NoMemory never h =
        (no_memory_on (FollowGives (AsTold TellsOwn answers) (WaitsAsTold TellsOwn waits) step_of kind_of makes fails retries kind making failing) (InBook retrying) (λ w book. Unit {0}) s s s' (looked_not s) h).0
    behind_leaves came.Again never h = has_to_wait (FollowGives (AsTold TellsOwn answers) (WaitsAsTold TellsOwn waits) step_of kind_of makes fails retries kind making failing) (InBook retrying) (λ w book. Unit {0}) s s' h

module _ (kind : Kind) (making : Making) (failing retrying : Cause) (s s' : Sight) where
  abbrev pub Runs : Came Bool → Type 0
  Runs c = HasTurned (RunGives kind making failing) (InBook retrying) (λ w book. Unit {0}) s s' c

  -- a transform that never fails doesn't
  pub run_not_failed : (c : Came Bool) → NeverHappens failing → Runs c → c ≢ came.Done false
  run_not_failed c never h is = failed_not (subst Runs is h)
    where
      failed_not : Runs (came.Done false) → ⊥
      failed_not f = never f.before.graph s.worker f.before.state f.leaves.cause

  -- a transform that never fails and was tried
  pub run_leaves : (c : Came Bool) → c ≢ came.Done false → Runs c → RunLeaves kind making retrying s s' (ran_of c)
  run_leaves (came.Done true) never h = has_finished kind making failing s s' (done_on (RunGives kind making failing) (InBook retrying) (λ w book. Unit {0}) s s s' (looked_not s) true h)
  run_leaves (came.Done false) never h = absurd (never refl)
  run_leaves came.NoMemory never h = (no_memory_on (RunGives kind making failing) (InBook retrying) (λ w book. Unit {0}) s s s' (looked_not s) h).0
  run_leaves came.Again never h = has_to_wait (RunGives kind making failing) (InBook retrying) (λ w book. Unit {0}) s s' h

-- a question that was asked once and answered
pub asked_of : {A : Type 0} (answers : Bool → WorkerId → BookView → A → Type 0) (waits : Bool → WorkerId → BookView → Type 0) (s s' : Sight) (a : A)
    → HasTurned (AskGives (AsTold TellsOwn answers)) (WaitsAsTold TellsOwn waits) (λ w book. ⊥) s s' (came.Done a) → IsAnswered (OfBook answers) a s s'
asked_of answers waits s s' a h =
    let k = is_answered (AsTold TellsOwn answers) s s' a (done_on (AskGives (AsTold TellsOwn answers)) (WaitsAsTold TellsOwn waits) (λ w book. ⊥) s s s' (looked_not s) a h) in
    record { book = k.book; found = k.found; answer = own_answer answers s.worker k.book a k.answer; sight = k.sight }
