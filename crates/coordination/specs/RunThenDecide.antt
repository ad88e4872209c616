-- What a transform leaves with a decision behind it, in one hold of the state lock.
use Rattle.std.specs.Prelude.{◌≡◌, true, false, Option}
use Rattle.lock_journal.specs.Names.{WorkerId, BookView, FailsIn, Kind}
use Rattle.coordination.specs.Attempts.{Cause, Making}
use Rattle.coordination.specs.Calls.{HasFailed, HasFinished}
use Rattle.coordination.specs.Decisions.{DecideGives, HadStep, HasDecided}
use Rattle.coordination.specs.Turns.{Finishes}
use Rattle.coordination.specs.declared.decisions.Decided.{Decided}
use Rattle.coordination.specs.declared.decisions.Decided.TheVariants as decided
use Rattle.coordination.specs.declared.decisions.Followed.{Followed}
use Rattle.coordination.specs.declared.decisions.Followed.TheVariants as followed
use Rattle.coordination.specs.declared.rule.Sight.{Sight}
use Rattle.coordination.specs.declared.turns.Came.{Came}
use Rattle.coordination.specs.declared.turns.Came.TheVariants as came

-- the book that a decision was made of
abbrev pub decided_of : {A X : Type 0} (answers : WorkerId → BookView → A → Type 0) (step_of : A → Option X) (kind_of : X → Kind) (makes : X → Making)
    (fails retries : X → Cause) (old new : Sight) (d : Decided A) → HasDecided answers step_of kind_of makes fails retries old new d → BookView
decided_of answers step_of kind_of makes fails retries old new (decided.Answered a) h = h.0.book
decided_of answers step_of kind_of makes fails retries old new (decided.Entered a true) h = h.finished.before
decided_of answers step_of kind_of makes fails retries old new (decided.Entered a false) h = h.failed.before
decided_of answers step_of kind_of makes fails retries old new (decided.Waiting a) h = h.before

-- The transform finished, and the decision was made of the very book that it left.
pub record HasDecidedBehind {A X : Type 0} (answers : WorkerId → BookView → A → Type 0) (step_of : A → Option X) (kind_of : X → Kind) (makes : X → Making)
    (fails retries : X → Cause) (kind : Kind) (making : Making) (old new : Sight) (d : Decided A) : Type 0 where
  pub between : Sight
  pub finished : HasFinished kind making old between
  pub decided : HasDecided answers step_of kind_of makes fails retries between new d
  pub at_once : decided_of answers step_of kind_of makes fails retries between new d decided ≡ between.seen

-- what a transform and the decision behind it leave of a pass
abbrev pub HasFollowed : {A X : Type 0} → (WorkerId → BookView → A → Type 0) → (WorkerId → BookView → Type 0) → (A → Option X) → (X → Kind)
    → (X → Making) → (X → Cause) → (X → Cause) → Kind → Making → Cause → Sight → Sight → Followed A → Type 0
HasFollowed answers waits step_of kind_of makes fails retries kind making failing old new followed.Failed = HasFailed kind failing old new
HasFollowed answers waits step_of kind_of makes fails retries kind making failing old new followed.Undecided =
    HasFinished kind making old new × waits new.worker new.seen
HasFollowed answers waits step_of kind_of makes fails retries kind making failing old new followed.NoMemory =
    HasFinished kind making old new × HadStep answers step_of new.worker new.seen
HasFollowed answers waits step_of kind_of makes fails retries kind making failing old new (followed.Decided d) =
    HasDecidedBehind answers step_of kind_of makes fails retries kind making old new d

-- what a transform and the decision behind it leave of a book
abbrev pub FollowGives : {A X : Type 0} → (WorkerId → BookView → A → Type 0) → (WorkerId → BookView → Type 0) → (A → Option X) → (X → Kind)
    → (X → Making) → (X → Cause) → (X → Cause) → Kind → Making → Cause → WorkerId → BookView → BookView → Followed A → Type 0
FollowGives answers waits step_of kind_of makes fails retries kind making failing w old new followed.Failed = FailsIn failing old new w kind
FollowGives answers waits step_of kind_of makes fails retries kind making failing w old new followed.Undecided = Finishes kind making w old new × waits w new
FollowGives answers waits step_of kind_of makes fails retries kind making failing w old new followed.NoMemory =
    Finishes kind making w old new × HadStep answers step_of w new
FollowGives answers waits step_of kind_of makes fails retries kind making failing w old new (followed.Decided d) =
    (between : BookView) × (between.graph ≡ old.graph) × Finishes kind making w old between
    × DecideGives answers step_of kind_of makes fails retries w between new d

-- what a decision comes to behind a transform that finished
abbrev pub followed_of : {A : Type 0} → Came (Decided A) → Followed A
followed_of (came.Done d) = followed.Decided d
followed_of came.NoMemory = followed.NoMemory
followed_of came.Again = followed.Undecided
