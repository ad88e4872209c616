-- What questions say where items are offered to be claimed, beside the book or in it, or aren't.
use Rattle.std.specs.Prelude.{Bool}
use Rattle.lock_journal.specs.Names.{WorkerId, BookView}
use Rattle.ready_work.specs.Choices.{has_queued}
use Rattle.worker_notes.specs.declared.outside_work.Queued.{Queued}
use Rattle.worker_notes.specs.declared.outside_work.Queued.TheVariants.{Beside, InBook}

-- with a book, whether items wait to be claimed
abbrev pub Telling : Type 1
Telling = BookView → Bool → Type 0

abbrev pub is_queued_in : Queued → BookView → Bool
is_queued_in (Beside some) book = some
is_queued_in InBook book = has_queued book.state

-- that may be told with each book
abbrev pub TellsQueued : Telling → Queued → Type 0
TellsQueued tells queued = (book : BookView) → tells book (is_queued_in queued book)

-- offers may tell this when they are looked at
abbrev pub AreTold : {O : Type 0} → (O → Telling) → Telling
AreTold {O} tells book queued = (offers : O) × tells offers book queued

-- an answer of the book, where items wait as the offers told
abbrev pub AsTold : {A : Type 0} → Telling → (Bool → WorkerId → BookView → A → Type 0) → WorkerId → BookView → A → Type 0
AsTold tells answers w book a = (queued : Bool) × tells book queued × answers queued w book a

-- a wait for an answer, where items wait or don't, as the offers told
abbrev pub WaitsAsTold : Telling → (Bool → WorkerId → BookView → Type 0) → WorkerId → BookView → Type 0
WaitsAsTold tells waits w book = (queued : Bool) × tells book queued × waits queued w book

-- the same where items wait so
abbrev pub AnswersWith : {A : Type 0} → Queued → (Bool → WorkerId → BookView → A → Type 0) → WorkerId → BookView → A → Type 0
AnswersWith queued answers w book a = answers (is_queued_in queued book) w book a

abbrev pub WaitsWith : Queued → (Bool → WorkerId → BookView → Type 0) → WorkerId → BookView → Type 0
WaitsWith queued waits w book = waits (is_queued_in queued book) w book
