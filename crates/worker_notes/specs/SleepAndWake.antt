-- What the end of a hold of the state lock leaves: who sleeps, who looks and who is woken.
use Rattle.std.specs.Prelude.{◌≡◌, ◌≢◌, ◌<◌, ◌⊎◌, ◌&&◌, ◌++◌, not, Bool, true, false, List, Option, None, Some, Result, Ok, Err}
use Rattle.std.specs.Prelude.{All, length, replicate, set, slice_get}
use Rattle.std.specs.List.{list_any}
use Rattle.lock_journal.specs.Names.{WorkerId, BookView, Entry, Kind, Block, Claim, End, Park, Skip, Submit, Disposition, Finished, Retry, IsEnded}
use Rattle.lock_transforms.specs.declared.transforms.Disposition.TheVariants.{Failed}
use Rattle.worker_choices.specs.NextSteps.{StillWait, Waits}
use Rattle.worker_choices.specs.GoingOn.{any_lets_go_on, last_lets_go_on}
use Rattle.worker_choices.specs.Stances.{asleep, looking, sleeps}
use Rattle.worker_choices.specs.declared.awaited.Awaited.{Awaited}
use Rattle.worker_choices.specs.declared.stances.Stance.{Stance}
use Rattle.worker_choices.specs.declared.stances.Stance.TheVariants.{Away, Looks, Sleeps}
use Rattle.worker_choices.specs.declared.woken.Woken.{Woken}
use Rattle.worker_choices.specs.declared.woken.Woken.TheVariants as woken
use Rattle.worker_notes.specs.Offered.{Telling, TellsQueued, is_queued_in}
use Rattle.worker_notes.specs.declared.outside_work.Queued.{Queued}
use Rattle.worker_notes.specs.declared.sleepers.Sleepers.{Sleepers}
use Rattle.worker_notes.specs.declared.sleepers.Then.{Then}
use Rattle.worker_notes.specs.declared.sleepers.Then.TheVariants.{Leaves, Works, Looks as ThenLooks}
use Rattle.worker_notes.specs.declared.sleepers.Wakes.{Wakes}

-- the stance of a worker that comes again at once, or doesn't
abbrev pub looks_if : Bool → Stance
looks_if true = Looks
looks_if false = Away

-- after an entry of this kind its worker goes to work
abbrev pub goes_to_work : Kind → Bool
goes_to_work (Claim u) = true
goes_to_work (Block u) = true
goes_to_work k = false

-- an entry of this kind brings its worker nothing to do yet
abbrev pub is_a_step : Kind → Bool
is_a_step (Skip t) = true
is_a_step (Submit a) = true
is_a_step (Park a) = true
is_a_step (End t) = true
is_a_step k = false

-- a worker comes again at once behind an entry of this kind that finished
abbrev pub comes_again : Then → Kind → Bool
comes_again Leaves kind = false
comes_again Works kind = is_a_step kind
comes_again ThenLooks kind = not (goes_to_work kind)

-- it does behind an answer without an entry, and behind a failed entry
abbrev pub looks_behind_answers : Then → Bool
looks_behind_answers ThenLooks = true
looks_behind_answers _ = false

-- The stance that a transform leaves its worker in. One that asks to be run again waits in it.
abbrev pub stance_after : {E : Type 0} → Then → Kind → Result Disposition E → Stance
stance_after behind kind (Ok Finished) = looks_if (comes_again behind kind)
stance_after behind kind (Ok Failed) = looks_if (looks_behind_answers behind)
stance_after behind kind (Ok Retry) = Away
stance_after behind kind (Err e) = Away

-- whether a transform left an entry, a failed one too
abbrev pub has_entered : {E : Type 0} → Result Disposition E → Bool
has_entered (Ok Finished) = true
has_entered (Ok Failed) = true
has_entered (Ok Retry) = false
has_entered (Err e) = false

-- the stance of a worker whose question has no answer: it sleeps until what it waits for comes
abbrev pub stance_waiting : Option Awaited → Stance
stance_waiting (Some awaited) = Sleeps awaited
stance_waiting None = Away

-- The stance that a question leaves its worker in: it carries the answer out, or waits for one.
abbrev pub stance_asking : {A : Type 0} → Then → Option Awaited → Option A → Stance
stance_asking behind awaits (Some a) = looks_if (looks_behind_answers behind)
stance_asking behind awaits None = stance_waiting awaits

-- Nobody is woken only where somebody looks or each sleeper still waits, a worker only where nobody looks and what it waits for has
-- come, and all only where all tasks have ended.
pub record IsWokenBy (book : BookView) (queued : Bool) (stances : List Stance) (who : Woken) : Type 0 where
  pub nobody : who ≡ woken.Nobody → (0 < looking stances) ⊎ StillWait book.graph book.state queued stances book.graph.workers
  pub one : (w : WorkerId) → who ≡ woken.One w
      → (looking stances ≡ 0) × (a : Awaited) × (slice_get stances w.0 ≡ Some (Sleeps a)) × (Waits book.graph w book.state queued a → ⊥)
  pub all : who ≡ woken.All → All IsEnded book.state.tasks

-- Who was woken looks. Where all were, nobody sleeps, and nobody is counted on.
abbrev pub stances_after : Woken → List Stance → List Stance
stances_after woken.Nobody stances = stances
stances_after (woken.One w) stances = set stances w.0 Looks
stances_after woken.All stances = replicate (length stances) Away

-- Somebody looks, or each worker that sleeps still waits for what it waits for.
abbrev pub AreQuiet : BookView → Bool → List Stance → Type 0
AreQuiet book queued stances = (0 < looking stances) ⊎ StillWait book.graph book.state queued stances book.graph.workers

-- A hold ended: its worker took this stance, and where nobody looked then one sleeper was woken for which what it waits for had
-- come. Where the hold made an entry, that wakes all questions that wait for any, and all transforms where it can let one go on.
pub record EndsHold (book : BookView) (w : WorkerId) (stance : Stance) (entered : Bool) (old new : Sleepers) (wakes : Wakes) : Type 0 where
  pub queued : new.queued ≡ old.queued
  pub questions : wakes.questions ≡ (entered && old.questions)
  pub transforms : wakes.transforms ≡ (entered && (old.transforms && last_lets_go_on book.history))
  pub workers : IsWokenBy book (is_queued_in old.queued book) (set old.stances w.0 stance) wakes.workers
  pub stances : new.stances ≡ stances_after wakes.workers (set old.stances w.0 stance)
  pub quiet : AreQuiet book (is_queued_in new.queued book) new.stances
  -- who isn't woken sleeps on
  pub questions_left : new.questions ≡ (old.questions && not wakes.questions)
  pub transforms_left : new.transforms ≡ (old.transforms && not wakes.transforms)

-- A hold of the state lock began, for a worker that does this behind it, where items waited so.
abbrev pub begun : Queued → Then → Sleepers → Sleepers
begun queued behind s = record { transforms = s.transforms; questions = s.questions; stances = s.stances; queued = queued; behind = behind }

-- a worker that was woken looks
abbrev pub woken_if : Bool → WorkerId → Sleepers → Sleepers
woken_if true w s = record { transforms = s.transforms; questions = s.questions; stances = set s.stances w.0 Looks; queued = s.queued; behind = s.behind }
woken_if false w s = s

-- A transform that asks to be run again sleeps, where its worker sleeps then.
abbrev pub noted_after : {E : Type 0} → Bool → Result Disposition E → Sleepers → Sleepers
noted_after true (Ok Retry) s = record { transforms = true; questions = s.questions; stances = s.stances; queued = s.queued; behind = s.behind }
noted_after false (Ok Retry) s = s
noted_after b (Ok Finished) s = s
noted_after b (Ok Failed) s = s
noted_after b (Err e) s = s

-- A question without an answer sleeps. Where it doesn't sleep apart, it is one of those that any entry wakes.
abbrev pub noted_asking : {A : Type 0} → Bool → Option A → Sleepers → Sleepers
noted_asking false None s = record { transforms = s.transforms; questions = true; stances = s.stances; queued = s.queued; behind = s.behind }
noted_asking true None s = s
noted_asking apart (Some a) s = s

-- The end of a hold woke these of those that slept when it began (`EndsHold`), by an entry too where the hold made one. Who slept on sleeps
-- afterwards, and perhaps the worker. Where a worker slept or falls asleep, the offers told where items waited.
pub record HasWoken (tells : Telling) (w : WorkerId) (behind : Then) (old new : BookView) (sleepers sleepers' : Sleepers)
    (wakes : Wakes) : Type 0 where
  pub queued : Queued
  pub woken : Bool
  pub stance : Stance
  pub told : ((asleep sleepers.stances ≡ 0) × (woken ≡ false) × (sleeps stance ≡ false)) ⊎ TellsQueued tells queued
  pub entered : Bool
  pub made : entered ≡ true → length old.history < length new.history
  pub unmade : entered ≡ false → new.history ≡ old.history
  pub left : Sleepers
  pub ends : EndsHold new w stance entered (begun queued behind (woken_if woken w sleepers)) left wakes
  pub stances : sleepers'.stances ≡ left.stances
  pub transforms : left.transforms ≡ true → sleepers'.transforms ≡ true
  pub questions : left.questions ≡ true → sleepers'.questions ≡ true

-- none of those that sleep
abbrev pub wakes_nobody : Wakes
wakes_nobody = record { transforms = false; questions = false; workers = woken.Nobody }

-- A hold goes on behind entries. They wake all questions that wait for any, and all transforms where one of them can let one go on. Who
-- sleeps apart is looked for at the end of the hold.
pub record GoesOn (lets : Bool) (old new : Sleepers) (wakes : Wakes) : Type 0 where
  pub queued : new.queued ≡ old.queued
  pub behind : new.behind ≡ old.behind
  pub stances : new.stances ≡ old.stances
  pub questions : wakes.questions ≡ old.questions
  pub transforms : wakes.transforms ≡ (old.transforms && lets)
  pub workers : wakes.workers ≡ woken.Nobody
  -- who isn't woken sleeps on
  pub questions_left : new.questions ≡ (old.questions && not wakes.questions)
  pub transforms_left : new.transforms ≡ (old.transforms && not wakes.transforms)

-- one of the entries can let a transform go on
abbrev pub entries_let_go_on : List Entry → Bool
entries_let_go_on entries = list_any (λ e. any_lets_go_on e.changes) entries

-- A worker that was woken or wasn't made these entries in a hold that goes on behind them.
pub record HasGoneOn (w : WorkerId) (old new : BookView) (sleepers sleepers' : Sleepers) (wakes : Wakes) : Type 0 where
  pub queued : Queued
  pub behind : Then
  pub woken : Bool
  pub more : List Entry
  pub some : 0 < length more
  pub history : new.history ≡ old.history ++ more
  pub goes : GoesOn (entries_let_go_on more) (begun queued behind (woken_if woken w sleepers)) sleepers' wakes

-- A turn ended its hold, and what it woke are those that this end woke; and where the hold had gone on behind entries, first those that
-- these woke. Of a turn that decides behind a transform, an end where that didn't finish doesn't count on the worker.
abbrev pub EndsTurn : Telling → WorkerId → Then → BookView → BookView → Sleepers → Sleepers → Wakes → Wakes → Type 0
EndsTurn tells w behind old new sleepers sleepers' wakes later =
    ((first : Then) × ((first ≡ behind) ⊎ (first ≡ Leaves)) × HasWoken tells w first old new sleepers sleepers' wakes × (later ≡ wakes_nobody))
    ⊎ ((between : BookView) × (mid : Sleepers) × HasGoneOn w old between sleepers mid wakes
    × HasWoken tells w behind between new mid sleepers' later)

-- the worker isn't noted as one that sleeps
abbrev pub IsAwake : WorkerId → Sleepers → Type 0
IsAwake w s = (a : Awaited) → slice_get s.stances w.0 ≢ Some (Sleeps a)
