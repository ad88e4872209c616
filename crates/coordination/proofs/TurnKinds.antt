-- What each kind of turn leaves of a book.
use Rattle.std.proofs.Common.{◌≡◌, ◌≢◌, Bool, true, false, ◌++◌, Result, Ok, Err, Option, Some, None, ◌<◌, refl, sym, ap, ◌∙◌, subst, append_assoc}
use Rattle.lock_journal.specs.Names.{GraphView, StateView, WorkerId, BookView, Kind, Disposition, Finished, Retry}
use Rattle.history_views.specs.ShownBooks.{IsUnchanged}
use Rattle.lock_transforms.specs.declared.transforms.Disposition.TheVariants.{Failed}
use Rattle.coordination.specs.declared.decisions.Decided.{Decided}
use Rattle.coordination.specs.declared.decisions.Decided.TheVariants as decided
use Rattle.coordination.specs.declared.decisions.Followed.{Followed}
use Rattle.coordination.specs.declared.decisions.Followed.TheVariants as followed
use Rattle.worker_notes.specs.declared.parts.WorkerPart.{WorkerPart}
use Rattle.worker_notes.specs.declared.sleepers.Sleepers.{Sleepers}
use Rattle.worker_notes.specs.declared.sleepers.Wakes.{Wakes}
use Rattle.coordination.specs.declared.turns.Came.{Came}
use Rattle.coordination.specs.declared.turns.Came.TheVariants as came
use Rattle.coordination.specs.Attempts.{Answers, Cause, HasRun, HasRunOn, Making, Ran}
use Rattle.coordination.specs.Decisions.{DecideGives, HadStep, HasStepped, carried_out}
use Rattle.worker_notes.specs.Offered.{AnswersWith, AsTold, Telling, TellsQueued, WaitsAsTold, WaitsWith, is_queued_in}
use Rattle.worker_notes.specs.declared.outside_work.Queued.{Queued}
use Rattle.coordination.specs.RunThenDecide.{FollowGives, followed_of}
use Rattle.worker_notes.specs.Parts.{HasRoom, IsPartHere, IsPartOf}
use Rattle.coordination.specs.Rule.{AddsOwn}
use Rattle.coordination.specs.Turns.{AskGives, Finishes, HasLeft, Leaves, RunGives, came_of, sight_at}
use Rattle.coordination.proofs.TakenBooks.{adds_own, same_own}
use Rattle.worker_notes.proofs.lemmas.Growing.{none_of-append}

same_book : (old new : BookView) → new ≡ old → IsUnchanged old new
same_book old new is = record { graph = ap (λ (b : BookView). b.graph) is; state = ap (λ (b : BookView). b.state) is; history = ap (λ (b : BookView). b.history) is }

-- where a transform asks to be run again
abbrev pub Retries : Cause → WorkerId → BookView → Type 0
Retries retries w book = retries book.graph w book.state

-- where a turn may want memory that runs a transform, and one that runs nothing
abbrev pub Anything : WorkerId → BookView → Type 0
Anything w book = Unit {0}

abbrev pub Nowhere : WorkerId → BookView → Type 0
Nowhere w book = ⊥

-- what a transform leaves of a book
module _ {E : Type 0} (kind : Kind) (makes : Making) (fails retries : Cause) (w : WorkerId) (old new : BookView) (graph : new.graph ≡ old.graph) where
  pub run_leaves : (r : Result Disposition E) → Ran kind makes fails retries w old new r → Leaves (RunGives kind makes fails) (Retries retries) Anything w old new (came_of r)
  run_leaves (Ok Finished) ran = ran
  run_leaves (Ok Failed) ran = ran
  run_leaves (Ok Retry) ran = (subst (λ (p : GraphView × StateView). retries p.0 w p.1) (λ i. (sym graph i, sym ran.state i)) ran.cause, record { graph = graph; state = ran.state; history = ran.history })
  run_leaves (Err e) ran = (tt, ran)

  pub run_own : (r : Result Disposition E) → Ran kind makes fails retries w old new r → AddsOwn (sight_at w old) new
  run_own r ran = adds_own kind makes fails retries r (sight_at w old) new graph ran

  -- the worker's part has followed, so that the book can be changed again
  pub part_again : (r : Result Disposition E) (part part' : WorkerPart) → IsPartHere w old part → Ran kind makes fails retries w old new r → IsPartOf new w part' → HasRoom part' → IsPartHere w new part'
  part_again r part part' p ran kept room = record { known = subst (λ (g : GraphView). w.0 < g.workers) (sym graph) p.known; sound = (run_own r ran).sound p.sound; kept = kept; room = room }

-- what the turn of a transform leaves
pub run_left : {E : Type 0} (kind : Kind) (makes : Making) (fails retries : Cause) (w : WorkerId) (old new : BookView) (part : WorkerPart) (before left : Sleepers) (r : Result Disposition E × Wakes) (c : Came Bool)
    → HasRun kind makes fails retries w old new part before left r → c ≡ came_of r.0 → HasLeft (RunGives kind makes fails) (Retries retries) Anything w old new part c
run_left kind makes fails retries w old new part before left r c h is =
    subst (HasLeft (RunGives kind makes fails) (Retries retries) Anything w old new part) (sym is)
    (record { own = run_own kind makes fails retries w old new h.graph r.0 h.ran; kept = h.kept; room = h.room; leaves = run_leaves kind makes fails retries w old new h.graph r.0 h.ran })

-- what the turn of a question leaves
module _ {A : Type 0} (answers : WorkerId → BookView → A → Type 0) (waits : WorkerId → BookView → Type 0) (w : WorkerId) (old new : BookView) (part : WorkerPart) (same : new ≡ old) (p : IsPartHere w old part) (r : Option A) (h : Answers answers waits w old r) where
  asked_left : (c : Came A) → Leaves (AskGives answers) waits Nowhere w old old c → HasLeft (AskGives answers) waits Nowhere w old new part c
  asked_left c leaves = subst (λ (b : BookView). HasLeft (AskGives answers) waits Nowhere w old b part c) (sym same) (record { own = same_own w old old refl; kept = p.kept; room = p.room; leaves = leaves })

  pub answered_left : (a : A) → r ≡ Some a → HasLeft (AskGives answers) waits Nowhere w old new part (came.Done a)
  answered_left a is = asked_left (came.Done a) (subst (Answers answers waits w old) is h, refl)

  pub unanswered_left : r ≡ None → HasLeft (AskGives answers) waits Nowhere w old new part came.Again
  unanswered_left is = asked_left came.Again (subst (Answers answers waits w old) is h, same_book old old refl)

-- what was answered of a book, as the offers told
pub answers_as_told : {A : Type 0} (tells : Telling) (answers : Bool → WorkerId → BookView → A → Type 0) (waits : Bool → WorkerId → BookView → Type 0) (queued : Queued) → TellsQueued tells queued → (w : WorkerId) (book : BookView) (r : Option A)
    → Answers (AnswersWith queued answers) (WaitsWith queued waits) w book r → Answers (AsTold tells answers) (WaitsAsTold tells waits) w book r
answers_as_told tells answers waits queued told w book (Some a) h = (is_queued_in queued book, told book, h)
answers_as_told tells answers waits queued told w book None h = (is_queued_in queued book, told book, h)

-- what a decision left, as the offers told
module _ {A X : Type 0} (tells : Telling) (answers : Bool → WorkerId → BookView → A → Type 0) (waits : Bool → WorkerId → BookView → Type 0) (step_of : A → Option X) (kind_of : X → Kind) (makes : X → Making) (fails retries : X → Cause)
    (queued : Queued) (told : TellsQueued tells queued) (w : WorkerId) where
  steps_as_told : (book : BookView) (a : A) {leaves : X → Type 0} → HasStepped (AnswersWith queued answers) step_of w book a leaves → HasStepped (AsTold tells answers) step_of w book a leaves
  steps_as_told book a s = record { answer = (is_queued_in queued book, told book, s.answer); step = s.step; is = s.is; left = s.left }

  leaves_as_told : (old new : BookView) (c : Came (Decided A)) → Leaves (DecideGives (AnswersWith queued answers) step_of kind_of makes fails retries) (WaitsWith queued waits) (HadStep (AnswersWith queued answers) step_of) w old new c
      → Leaves (DecideGives (AsTold tells answers) step_of kind_of makes fails retries) (WaitsAsTold tells waits) (HadStep (AsTold tells answers) step_of) w old new c
  leaves_as_told old new (came.Done (decided.Answered a)) h = ((is_queued_in queued old, told old, h.0), h.1, h.2)
  leaves_as_told old new (came.Done (decided.Entered a true)) h = steps_as_told old a h
  leaves_as_told old new (came.Done (decided.Entered a false)) h = steps_as_told old a h
  leaves_as_told old new (came.Done (decided.Waiting a)) h = steps_as_told old a h
  leaves_as_told old new came.NoMemory h = let s = h.0 in ((s.0, s.1, s.2, steps_as_told s.0 s.2 s.3), h.1)
  leaves_as_told old new came.Again h = ((is_queued_in queued new, told new, h.0), h.1)

  pub left_as_told : (old new : BookView) (part : WorkerPart) (c : Came (Decided A)) → HasLeft (DecideGives (AnswersWith queued answers) step_of kind_of makes fails retries) (WaitsWith queued waits) (HadStep (AnswersWith queued answers) step_of) w old new part c
      → HasLeft (DecideGives (AsTold tells answers) step_of kind_of makes fails retries) (WaitsAsTold tells waits) (HadStep (AsTold tells answers) step_of) w old new part c
  left_as_told old new part c h = record { own = h.own; kept = h.kept; room = h.room; leaves = leaves_as_told old new c h.leaves }

module _ {A X : Type 0} (answers : WorkerId → BookView → A → Type 0) (waits : WorkerId → BookView → Type 0) (step_of : A → Option X) (kind_of : X → Kind) (makes : X → Making) (fails retries : X → Cause) where
  -- what a decision leaves of a book that it changes nothing in
  same_left : (w : WorkerId) (book : BookView) (part : WorkerPart) (c : Came (Decided A)) → IsPartHere w book part → Leaves (DecideGives answers step_of kind_of makes fails retries) waits (HadStep answers step_of) w book book c
      → HasLeft (DecideGives answers step_of kind_of makes fails retries) waits (HadStep answers step_of) w book book part c
  same_left w book part c p leaves = record { own = same_own w book book refl; kept = p.kept; room = p.room; leaves = leaves }

  pub undecided_left : (w : WorkerId) (book : BookView) (part : WorkerPart) → IsPartHere w book part → waits w book → HasLeft (DecideGives answers step_of kind_of makes fails retries) waits (HadStep answers step_of) w book book part came.Again
  undecided_left w book part p cause = same_left w book part came.Again p (cause, same_book book book refl)

  pub stepless_left : (w : WorkerId) (book : BookView) (part : WorkerPart) (a : A) → IsPartHere w book part → answers w book a → step_of a ≡ None
      → HasLeft (DecideGives answers step_of kind_of makes fails retries) waits (HadStep answers step_of) w book book part (came.Done (decided.Answered a))
  stepless_left w book part a p answer none = same_left w book part (came.Done (decided.Answered a)) p (answer, none, refl)

module _ {A X E : Type 0} (answers : WorkerId → BookView → A → Type 0) (waits : WorkerId → BookView → Type 0) (step_of : A → Option X) (kind_of : X → Kind) (makes : X → Making) (fails retries : X → Cause) where
  -- what the step of an answer leaves of a book
  step_leaves : (w : WorkerId) (old new : BookView) (a : A) (x : X) → answers w old a → step_of a ≡ Some x → (r : Result Disposition E) → Ran (kind_of x) (makes x) (fails x) (retries x) w old new r
      → Leaves (DecideGives answers step_of kind_of makes fails retries) waits (HadStep answers step_of) w old new (carried_out a r)
  step_leaves w old new a x answer is (Ok Finished) ran = record { answer = answer; step = x; is = is; left = ran }
  step_leaves w old new a x answer is (Ok Failed) ran = record { answer = answer; step = x; is = is; left = ran }
  step_leaves w old new a x answer is (Ok Retry) ran = record { answer = answer; step = x; is = is; left = ran }
  step_leaves w old new a x answer is (Err e) ran = ((old, ran, a, record { answer = answer; step = x; is = is; left = tt }), ran)

  pub stepped_left : (w : WorkerId) (old new : BookView) (part : WorkerPart) (a : A) (x : X) (before left : Sleepers) (r : Result Disposition E × Wakes) (c : Came (Decided A)) → answers w old a → step_of a ≡ Some x
      → HasRun (kind_of x) (makes x) (fails x) (retries x) w old new part before left r → c ≡ carried_out a r.0 → HasLeft (DecideGives answers step_of kind_of makes fails retries) waits (HadStep answers step_of) w old new part c
  stepped_left w old new part a x before left r c answer is h same =
      subst (HasLeft (DecideGives answers step_of kind_of makes fails retries) waits (HadStep answers step_of) w old new part) (sym same)
      (record { own = run_own (kind_of x) (makes x) (fails x) (retries x) w old new h.graph r.0 h.ran; kept = h.kept; room = h.room; leaves = step_leaves w old new a x answer is r.0 h.ran })

-- what came of a transform tells whether it finished
pub finished_of : {E : Type 0} (r : Result Disposition E) → came_of r ≡ came.Done true → r ≡ Ok Finished
finished_of (Ok Finished) is = refl
finished_of (Ok Failed) is = absurd (cc)
finished_of (Ok Retry) is = absurd (cc)
finished_of (Err e) is = absurd (cc)

pub unfinished_of : {E : Type 0} (r : Result Disposition E) (c : Came Bool) → came_of r ≡ c → c ≢ came.Done true → r ≢ Ok Finished
unfinished_of r c is other finished = other (sym is ∙ ap (λ q. came_of q) finished)

-- it didn't where it failed, found no memory, or is to be had again
pub not_failed : ◌≢◌ {A = Came Bool} (came.Done false) (came.Done true)
not_failed is = cc

pub not_without_memory : ◌≢◌ {A = Came Bool} came.NoMemory (came.Done true)
not_without_memory is = cc

pub not_again : ◌≢◌ {A = Came Bool} came.Again (came.Done true)
not_again is = cc

-- own entries behind own entries
adds_then : (w : WorkerId) (old between new : BookView) → AddsOwn (sight_at w old) between → AddsOwn (sight_at w between) new → AddsOwn (sight_at w old) new
adds_then w old between new a b = record {
  more = a.more ++ b.more;
  graph = b.graph ∙ a.graph;
  history = b.history ∙ (ap (λ h. h ++ b.more) a.history ∙ append_assoc old.history a.more b.more);
  own = λ v ne. none_of-append v a.more b.more (a.own v ne) (b.own v ne);
  sound = λ sound. b.sound (a.sound sound);
}

-- the book after a transform finished, which nothing has changed since
still_finishes : (kind : Kind) (making : Making) (w : WorkerId) (old between new : BookView) → Finishes kind making w old between → IsUnchanged between new → Finishes kind making w old new
still_finishes kind making w old between new f same = (f.0, record { made = f.1.made; allowed = f.1.allowed; history = same.history ∙ f.1.history; state = same.state ∙ f.1.state })

module _ {A X : Type 0} (answers : WorkerId → BookView → A → Type 0) (waits : WorkerId → BookView → Type 0) (step_of : A → Option X) (kind_of : X → Kind) (makes : X → Making) (fails retries : X → Cause)
    (kind : Kind) (making : Making) (failing asking : Cause) where
  -- what a transform and the decision behind it leave of a book
  followed_leaves : (w : WorkerId) (old between new : BookView) → between.graph ≡ old.graph → Finishes kind making w old between → (r : Came (Decided A))
      → Leaves (DecideGives answers step_of kind_of makes fails retries) waits (HadStep answers step_of) w between new r → FollowGives answers waits step_of kind_of makes fails retries kind making failing w old new (followed_of r)
  followed_leaves w old between new graph f (came.Done d) h = (between, graph, f, h)
  followed_leaves w old between new graph f came.NoMemory h = (still_finishes kind making w old between new f h.1, h.0)
  followed_leaves w old between new graph f came.Again h = (still_finishes kind making w old between new f h.1, h.0)

  pub followed_left : {E : Type 0} (w : WorkerId) (old between new : BookView) (part part' : WorkerPart) (before left : Sleepers) (r : Result Disposition E × Wakes) → HasRunOn kind making failing asking w old between part before left r
      → came_of r.0 ≡ came.Done true → (v : Came (Decided A)) → HasLeft (DecideGives answers step_of kind_of makes fails retries) waits (HadStep answers step_of) w between new part' v
      → HasLeft (FollowGives answers waits step_of kind_of makes fails retries kind making failing) (Retries asking) Anything w old new part' (came.Done (followed_of v))
  followed_left {E} w old between new part part' before left r run is v h = record {
    own = adds_then w old between new (run_own kind making failing asking w old between run.graph r.0 run.ran) h.own;
    kept = h.kept;
    room = h.room;
    leaves = followed_leaves w old between new run.graph
        (subst (Leaves (RunGives kind making failing) (Retries asking) Anything w old between) is (run_leaves kind making failing asking w old between run.graph r.0 run.ran)) v h.leaves;
  }

  -- where the transform doesn't finish
  module _ {E : Type 0} (w : WorkerId) (old new : BookView) (part : WorkerPart) (before left : Sleepers) (r : Result Disposition E × Wakes) (run : HasRunOn kind making failing asking w old new part before left r) where
    alone_leaves : (c : Came Bool) → came_of r.0 ≡ c → Leaves (RunGives kind making failing) (Retries asking) Anything w old new c
    alone_leaves c is = subst (Leaves (RunGives kind making failing) (Retries asking) Anything w old new) is (run_leaves kind making failing asking w old new run.graph r.0 run.ran)

    alone_left : (v : Came (Followed A)) → Leaves (FollowGives answers waits step_of kind_of makes fails retries kind making failing) (Retries asking) Anything w old new v
        → HasLeft (FollowGives answers waits step_of kind_of makes fails retries kind making failing) (Retries asking) Anything w old new part v
    alone_left v leaves = record { own = run_own kind making failing asking w old new run.graph r.0 run.ran; kept = run.kept; room = run.room; leaves = leaves }

    pub failed_left : came_of r.0 ≡ came.Done false → HasLeft (FollowGives answers waits step_of kind_of makes fails retries kind making failing) (Retries asking) Anything w old new part (came.Done followed.Failed)
    failed_left is = alone_left (came.Done followed.Failed) (alone_leaves (came.Done false) is)

    pub memory_left : came_of r.0 ≡ came.NoMemory → HasLeft (FollowGives answers waits step_of kind_of makes fails retries kind making failing) (Retries asking) Anything w old new part came.NoMemory
    memory_left is = alone_left came.NoMemory (alone_leaves came.NoMemory is)

    pub again_left : came_of r.0 ≡ came.Again → HasLeft (FollowGives answers waits step_of kind_of makes fails retries kind making failing) (Retries asking) Anything w old new part came.Again
    again_left is = alone_left came.Again (alone_leaves came.Again is)
