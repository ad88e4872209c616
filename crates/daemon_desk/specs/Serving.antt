-- What serving does with the requests that come, and why it ends.
use Rattle.std.specs.Prelude.{ℕ, ◌≡◌, ◌≢◌, ◌+◌, ◌-◌, ◌^◌, ◌<◌, ◌≤◌, ◌⊎◌, ◌==◌, if◌then◌else◌}
use Rattle.std.specs.Prelude.{List, [], length, map, count_by, Option, Result, Ok, Err}
use Rattle.std.specs.List.{AllByRecursion}
use Rattle.std.specs.Io.KnownBytes.{Consumes, IsAtEnd}
use Rattle.item_actions.specs.Files.{Folder}
use Rattle.item_actions.specs.Value.{is_fault}
use Rattle.daemon_protocol.specs.StreamStart.{look, Cuts}
use Rattle.daemon_protocol.specs.declared.frames.Frame.TheVariants.{Request, Stop}
use Rattle.daemon_protocol.specs.declared.frames.Request.{Request as Asked}
use Rattle.daemon_protocol.specs.declared.starts.StreamStart.{StreamStart}
use Rattle.daemon_protocol.specs.declared.starts.StreamStart.TheVariants.{Unfinished, Whole, Refused}
use Rattle.file_access.specs.SinkView.{SinkView, Rises, Wrote, Broke}
use Rattle.file_access.specs.SourceView.{SourceView}
use Rattle.daemon_desk.specs.Answer.{Answer, asked, replies, IsHonestAnswer}
use Rattle.daemon_desk.specs.Taking.{NothingBehind}
use Rattle.daemon_desk.specs.declared.served_stream.Served.{Served}
use Rattle.daemon_desk.specs.declared.served_stream.TheConstants.{MAX_STREAM_BYTES}
use Rattle.daemon_desk.specs.declared.served_stream.Served.TheVariants.{Done, BadFrame, SourceFault, SinkFault, NoMemory}

-- what is known of the source, of the sink, and of the files with the count of their faults
pub record Outside : Type 0 where
  pub source : SourceView
  pub sink : SinkView
  pub files : Option Folder
  pub faults : ℕ

-- how serving ends where no request comes: by what stands there, how many bytes came, and how many of them stand there
abbrev pub ending : StreamStart → ℕ → ℕ → Served
ending (Whole Stop n) came rest = Done
ending Unfinished came rest = if came == MAX_STREAM_BYTES then BadFrame MAX_STREAM_BYTES else (if rest == 0 then Done else BadFrame (came - rest))
ending _ came rest = BadFrame (came - rest)

-- a request stands there, or none, so that serving ends
abbrev pub IsRequestOf : StreamStart → ℕ → ℕ → Result Asked Served → Type 0
IsRequestOf start came rest (Ok r) = (n : ℕ) × (start ≡ Whole (Request r) n)
IsRequestOf start came rest (Err served) = ((r : Asked) (n : ℕ) → start ≢ Whole (Request r) n) × (served ≡ ending start came rest)

-- No request comes: another frame stands there and nothing was taken behind it, or what can be no frame, or so many bytes were
-- taken as are taken of any stream, or no more are left.
abbrev pub IsOver : StreamStart → ℕ → ℕ → Option (List ℕ) → Type 0
IsOver (Whole (Request r) n) came rest left = ⊥
IsOver (Whole f n) came rest left = n ≡ rest
IsOver (Refused flaw) came rest left = Unit {0}
IsOver Unfinished came rest left = (came ≡ MAX_STREAM_BYTES) ⊎ IsAtEnd left

-- Why serving ended: by the bytes that came, what follows the requests in them, and the text of the replies.
abbrev pub IsEnd : Outside → Outside → List ℕ → List ℕ → List ℕ → Served → Type 0
-- the source failed before another frame was whole
IsEnd old new came rest text SourceFault = (look rest ≡ Unfinished) × Rises old.source.faults new.source.faults × Wrote old.sink new.sink text
-- the sink failed in the last reply
IsEnd old new came rest text SinkFault = (rest ≡ []) × Broke old.sink new.sink text
-- there was no memory for the next request or its reply
IsEnd old new came rest text NoMemory = Wrote old.sink new.sink text
IsEnd old new came rest text served = (served ≡ ending (look rest) (length came) (length rest))
    × IsOver (look rest) (length came) (length rest) new.source.left × Wrote old.sink new.sink text

-- From the source these bytes came, which are requests and a rest. Each request has its answer here.
pub record HasAnswered (old new : Outside) (came rest : List ℕ) (answers : List Answer) : Type 0 where
  pub taken : Consumes old.source.left new.source.left came
  pub few : length came ≤ MAX_STREAM_BYTES
  pub requests : Cuts came (map asked answers) rest
  pub honest : AllByRecursion (IsHonestAnswer old.files) answers
  -- the count of the files' faults rose by the requests answered with a fault at least, unless it stands at its last value
  pub faults : new.faults < 2 ^ 64 - 1 → count_by (λ a. is_fault a.outcome) answers + old.faults ≤ new.faults

-- Serving answered requests, and why it ended.
pub record HasServed (old new : Outside) (served : Served) : Type 0 where
  pub came : List ℕ
  pub rest : List ℕ
  pub answers : List Answer
  pub answered : HasAnswered old new came rest answers
  -- also behind a frame that is refused, and where there was no memory
  pub nothing_behind : NothingBehind rest
  pub end : IsEnd old new came rest (replies answers) served

-- Each request that came was answered, and so many bytes more may be taken.
pub record IsServing (old new : Outside) (left : ℕ) : Type 0 where
  pub came : List ℕ
  pub answers : List Answer
  pub answered : HasAnswered old new came [] answers
  pub wrote : Wrote old.sink new.sink (replies answers)
  pub room : length came + left ≡ MAX_STREAM_BYTES
  pub files : new.files ≡ old.files
  pub faults : old.faults ≤ new.faults
  pub source_faults : old.source.faults ≤ new.source.faults

-- one request more was answered, or serving ended
abbrev pub ServesOn : Outside → Outside → ℕ → Result ℕ Served → Type 0
ServesOn old new room (Ok len) = IsServing old new (room - len)
ServesOn old new room (Err served) = HasServed old new served
