-- What reading an input takes of it.
use Rattle.std.specs.Prelude.{ℕ, ◌≡◌, ◌<◌, ◌≤◌, ◌⊎◌, Bool, true, false, List, [], ◌++◌, length, Result, Ok, Err}
use Rattle.std.specs.Io.KnownBytes.{Consumes, IsAtEnd}
use Rattle.file_access.specs.SinkView.{Rises}
use Rattle.file_access.specs.SourceView.{SourceView}
use Rattle.leases_picture.specs.declared.reading.ReadFail.{ReadFail}
use Rattle.leases_picture.specs.declared.reading.ReadFail.TheVariants.{SourceFault, NoMemory}
use Rattle.leases_picture.specs.declared.reading.TheConstants.{MAX_INPUT_BYTES}

-- the text grew by bytes that were taken
pub record Grows (most : ℕ) (old new : SourceView) (was is : List ℕ) : Type 0 where
  pub piece : List ℕ
  pub taken : Consumes old.left new.left piece
  pub faults : old.faults ≤ new.faults
  pub few : length piece ≤ most
  pub text : is ≡ was ++ piece

-- nothing was taken, since there was nothing
pub record EndsThere (old new : SourceView) (was is : List ℕ) : Type 0 where
  pub taken : Consumes old.left new.left []
  pub faults : old.faults ≤ new.faults
  pub text : is ≡ was
  pub all : IsAtEnd new.left

abbrev pub TakesPiece : ℕ → SourceView → SourceView → List ℕ → List ℕ → Result Bool ReadFail → Type 0
TakesPiece most old new was is (Ok true) = Grows most old new was is × (length was < length is)
TakesPiece most old new was is (Ok false) = EndsThere old new was is
TakesPiece most old new was is (Err SourceFault) = Rises old.faults new.faults
TakesPiece most old new was is (Err NoMemory) = old.faults ≤ new.faults

-- These bytes were taken: all there were, or as many as are taken at most.
pub record TakesAll (old new : SourceView) (text : List ℕ) : Type 0 where
  pub taken : Consumes old.left new.left text
  pub faults : old.faults ≤ new.faults
  pub all : IsAtEnd new.left ⊎ (length text ≡ MAX_INPUT_BYTES)

-- the input failed, or there was no memory for its bytes
abbrev pub HasFailed : SourceView → SourceView → ReadFail → Type 0
HasFailed old new SourceFault = Rises old.faults new.faults
HasFailed old new NoMemory = old.faults ≤ new.faults
