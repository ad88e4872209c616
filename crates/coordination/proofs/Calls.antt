-- What the calls under the state lock come to, by what their turns do.
use Rattle.std.proofs.Common.{◌≡◌, Bool, true, false, Result, Ok, Option, IfOk, ◌<◌, refl, sym, ap, ◌∙◌, subst}
use Rattle.lock_journal.specs.Names.{GraphView, WorkerId, BookView, Kind, Finished}
use Rattle.coordination.specs.Names.{IsSoundBook, Cause, Making, AskedInVain, HasFailed, HasFinished, IsAnswered, WasStopped, DecideGives, HadStep}
use Rattle.coordination.specs.Names.{HasDecided, FollowGives, HasFollowed, decided_of, seeing, AskGives, RunGives, sight_at}
use Rattle.coordination.specs.declared.decisions.Decided.{Decided}
use Rattle.coordination.specs.declared.decisions.Decided.TheVariants as decided
use Rattle.coordination.specs.declared.decisions.Followed.{Followed}
use Rattle.coordination.specs.declared.decisions.Followed.TheVariants as followed
use Rattle.coordination.specs.declared.rule.Sight.{Sight}
use Rattle.coordination.specs.Turns.{Finishes, HasDone}
use Rattle.coordination.proofs.TakenBooks.{adds_own}
use Rattle.worker_notes.proofs.lemmas.Growing.{agrees_self}

module _ (kind : Kind) (makes : Making) (fails : Cause) (s s' : Sight) where
  pub has_finished : HasDone (RunGives kind makes fails) s s' true → HasFinished kind makes s s'
  has_finished h = record { before = h.before; after = h.after; changes = h.outcome.0; found = h.found; graph = h.graph; finished = h.outcome.1; left = h.left; sight = h.sight }

  pub has_failed : HasDone (RunGives kind makes fails) s s' false → HasFailed kind fails s s'
  has_failed h = record { before = h.before; after = h.after; found = h.found; graph = h.graph; failed = h.outcome; left = h.left; sight = h.sight }

  -- what the call says by its answer
  pub finished_if : {E : Type 0} (r : Result Bool E) → IfOk r (HasDone (RunGives kind makes fails) s s') → r ≡ Ok true → HasFinished kind makes s s'
  finished_if {E} r h is = has_finished (subst (λ (q : Result Bool E). IfOk q (HasDone (RunGives kind makes fails) s s')) is h)

  pub failed_if : {E : Type 0} (r : Result Bool E) → IfOk r (HasDone (RunGives kind makes fails) s s') → r ≡ Ok false → HasFailed kind fails s s'
  failed_if {E} r h is = has_failed (subst (λ (q : Result Bool E). IfOk q (HasDone (RunGives kind makes fails) s s')) is h)

pub was_stopped : (retries : Cause) (by : WorkerId) (s s' : Sight) → AskedInVain (λ w book. retries book.graph w book.state) by s s' → WasStopped retries by s s'
was_stopped retries by s s' h = record { book = h.book; found = h.found; cause = h.cause; stopper = h.stopper; sight = h.sight }

pub is_answered : {A : Type 0} (answers : WorkerId → BookView → A → Type 0) (s s' : Sight) (a : A) → HasDone (AskGives answers) s s' a → IsAnswered answers a s s'
is_answered answers s s' a h = record { book = h.before; found = h.found; answer = h.outcome.0; sight = h.sight ∙ ap (λ (b : BookView). seeing s b) h.outcome.1 }

module _ {A X : Type 0} (answers : WorkerId → BookView → A → Type 0) (step_of : A → Option X) (kind_of : X → Kind) (makes : X → Making) (fails retries : X → Cause) where
  pub has_decided : (s s' : Sight) (d : Decided A) → HasDone (DecideGives answers step_of kind_of makes fails retries) s s' d → HasDecided answers step_of kind_of makes fails retries s s' d
  has_decided s s' (decided.Answered a) h = (record { book = h.before; found = h.found; answer = h.outcome.0; sight = h.sight ∙ ap (λ (b : BookView). seeing s b) h.outcome.2 }, h.outcome.1)
  has_decided s s' (decided.Entered a true) h =
      let g = h.outcome in record {
        step = g.step;
        is = g.is;
        finished = record { before = h.before; after = h.after; changes = g.left.0; found = h.found; graph = h.graph; finished = g.left.1; left = h.left; sight = h.sight };
        answer = g.answer;
      }
  has_decided s s' (decided.Entered a false) h =
      let g = h.outcome in record {
        step = g.step;
        is = g.is;
        failed = record { before = h.before; after = h.after; found = h.found; graph = h.graph; failed = g.left; left = h.left; sight = h.sight };
        answer = g.answer;
      }
  has_decided s s' (decided.Waiting a) h =
      let g = h.outcome in record { step = g.step; is = g.is; before = h.before; after = h.after; found = h.found; answer = g.answer; graph = h.graph; unchanged = g.left; sight = h.sight }

  -- the book that it was made of
  decided_book : (s s' : Sight) (d : Decided A) (h : HasDone (DecideGives answers step_of kind_of makes fails retries) s s' d) → decided_of answers step_of kind_of makes fails retries s s' d (has_decided s s' d h) ≡ h.before
  unfolding has_decided
  decided_book s s' (decided.Answered a) h = refl
  decided_book s s' (decided.Entered a true) h = refl
  decided_book s s' (decided.Entered a false) h = refl
  decided_book s s' (decided.Waiting a) h = refl

  module _ (waits : WorkerId → BookView → Type 0) (kind : Kind) (making : Making) (failing : Cause) (s s' : Sight) where
    pub has_followed : (c : Followed A) → HasDone (FollowGives answers waits step_of kind_of makes fails retries kind making failing) s s' c
        → HasFollowed answers waits step_of kind_of makes fails retries kind making failing s s' c
    has_followed followed.Failed h = record { before = h.before; after = h.after; found = h.found; graph = h.graph; failed = h.outcome; left = h.left; sight = h.sight }
    has_followed followed.Undecided h = (
      record { before = h.before; after = h.after; changes = h.outcome.0.0; found = h.found; graph = h.graph; finished = h.outcome.0.1; left = h.left; sight = h.sight },
      subst (λ (k : Sight). waits k.worker k.seen) (sym h.sight) h.outcome.1,
    )
    has_followed followed.NoMemory h = (
      record { before = h.before; after = h.after; changes = h.outcome.0.0; found = h.found; graph = h.graph; finished = h.outcome.0.1; left = h.left; sight = h.sight },
      subst (λ (k : Sight). HadStep answers step_of k.worker k.seen) (sym h.sight) h.outcome.1,
    )
    has_followed (followed.Decided d) h =
        let between = h.outcome.0 in
        let same_graph : between.graph ≡ h.before.graph = h.outcome.1 in
        let finishes : Finishes kind making s.worker h.before between = h.outcome.2 in
        let sound : IsSoundBook between = (adds_own {E = Unit {0}} kind making failing failing (Ok Finished) (sight_at s.worker h.before) between same_graph finishes).sound h.found.sound in
        let on : HasDone (DecideGives answers step_of kind_of makes fails retries) (seeing s between) s' d = record {
          before = between;
          after = h.after;
          found = record { agrees = agrees_self s.worker between; sound = sound; known = subst (λ (g : GraphView). s.worker.0 < g.workers) (sym same_graph) h.found.known };
          graph = h.graph ∙ sym same_graph;
          outcome = h.outcome.3;
          left = h.left;
          sight = h.sight;
        } in record {
          between = seeing s between;
          finished = record { before = h.before; after = between; changes = finishes.0; found = h.found; graph = same_graph; finished = finishes.1; left = sound; sight = refl };
          decided = has_decided (seeing s between) s' d on;
          at_once = decided_book (seeing s between) s' d on;
        }
