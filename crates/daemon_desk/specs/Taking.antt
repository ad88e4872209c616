-- What the taking of a frame's bytes does.
use Rattle.std.specs.Prelude.{ℕ, ◌≡◌, ◌≤◌, ◌⊎◌, List, [], ◌++◌, length, Option, Result, Ok, Err}
use Rattle.std.specs.Io.KnownBytes.{Consumes, IsAtEnd}
use Rattle.daemon_protocol.specs.StreamStart.{look, lacking}
use Rattle.daemon_protocol.specs.declared.starts.StreamStart.{StreamStart}
use Rattle.daemon_protocol.specs.declared.starts.StreamStart.TheVariants.{Unfinished, Whole, Refused}
use Rattle.file_access.specs.SinkView.{Rises}
use Rattle.file_access.specs.SourceView.{SourceView}
use Rattle.file_access.specs.declared.files.DeskFail.{DeskFail}
use Rattle.file_access.specs.declared.files.DeskFail.TheVariants.{Failed, NoMemory}

-- these bytes were taken, and there was room for them
pub record Takes (old new : SourceView) (room : ℕ) (held : List ℕ) : Type 0 where
  pub taken : Consumes old.left new.left held
  pub faults : old.faults ≤ new.faults
  pub few : length held ≤ room

-- no more is taken for a frame: the frame is whole and nothing was taken behind it, or it is refused, or there is no room or no byte left
abbrev pub IsTaken : StreamStart → ℕ → ℕ → Option (List ℕ) → Type 0
IsTaken (Whole f n) held room left = n ≡ held
IsTaken (Refused flaw) held room left = Unit {0}
IsTaken Unfinished held room left = (held ≡ room) ⊎ IsAtEnd left

-- Nothing was taken behind the frame at hand: its bytes up to some place didn't tell yet what stands there, and behind these no
-- more were taken than were lacking, of the head or of the frame whose length the head says.
pub record NothingBehind (held : List ℕ) : Type 0 where
  pub front : List ℕ
  pub last : List ℕ
  pub held_of : held ≡ front ++ last
  pub unfinished : look front ≡ Unfinished
  pub lacked : length last ≤ lacking front

abbrev pub TakesFrame : SourceView → SourceView → ℕ → List ℕ → Result StreamStart DeskFail → Type 0
TakesFrame old new room held (Ok start) = Takes old new room held × NothingBehind held × (start ≡ look held) × IsTaken start (length held) room new.left
TakesFrame old new room held (Err Failed) = (piece : List ℕ) × Takes old new room piece × (look piece ≡ Unfinished) × Rises old.faults new.faults
TakesFrame old new room held (Err NoMemory) = (piece : List ℕ) × Takes old new room piece × NothingBehind piece

-- at most so many bytes were taken and held behind the others, and none only at the end
pub record TakesBehind (old new : SourceView) (held held' : List ℕ) (most count : ℕ) : Type 0 where
  pub piece : List ℕ
  pub held_of : held' ≡ held ++ piece
  pub takes : Takes old new most piece
  pub count_of : length piece ≡ count
  pub end : count ≡ 0 → IsAtEnd new.left

abbrev pub TakesMore : SourceView → SourceView → List ℕ → List ℕ → ℕ → Result ℕ DeskFail → Type 0
TakesMore old new held held' most (Ok count) = TakesBehind old new held held' most count
TakesMore old new held held' most (Err Failed) = Takes old new 0 [] × Rises old.faults new.faults
TakesMore old new held held' most (Err NoMemory) = new ≡ old
