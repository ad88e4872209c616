-- What a read of a file by its name answers, and what is counted of it.
use Rattle.std.specs.Prelude.{◌≡◌, ℕ, ◌≤◌, nat_lt, List, length, Option, Some, None, Result, Ok, Err, if◌then◌else◌, option_map}
use Rattle.item_actions.specs.Files.{Folder, file_of}
use Rattle.item_actions.specs.declared.outcomes.Outcome.{Outcome}
use Rattle.item_actions.specs.declared.outcomes.Outcome.TheVariants as outcomes
use Rattle.file_access.specs.declared.files.Read.{Read}
use Rattle.file_access.specs.declared.files.Read.TheVariants as read
use Rattle.file_access.specs.declared.files.DeskFail.{DeskFail}
use Rattle.file_access.specs.declared.files.DeskFail.TheVariants as fail
use Rattle.file_access.specs.Calls.{next}

pub data ReadView : Type 0 where
  Bytes : List ℕ → ReadView
  NotThere : ReadView
  TooLong : ReadView

-- the reading of what there is under a name, where a file may have `limit` bytes
abbrev pub reading : Option (List ℕ) → ℕ → ReadView
reading None limit = NotThere
reading (Some bytes) limit = if nat_lt limit (length bytes) then TooLong else Bytes bytes

-- an answer as a reading
abbrev pub read_view : Read → ReadView
read_view (read.Bytes bytes) = Bytes bytes
read_view read.NotThere = NotThere
read_view read.TooLong = TooLong

-- a reading hands out `limit` bytes at most
abbrev pub IsWithin : ℕ → ReadView → Type 0
IsWithin limit (Bytes bytes) = length bytes ≤ limit
IsWithin limit _ = Unit

-- where the files are known, an answer other than a failure is the reading of the name
abbrev pub ReadsFrom : Option Folder → List ℕ → ℕ → Result Read DeskFail → Type 0
ReadsFrom (Some files) name limit (Ok read) = read_view read ≡ reading (file_of files name) limit
ReadsFrom _ name limit _ = Unit

-- a call on the outside that failed is counted, and no other
abbrev pub IsFaultCounted : {A : Type 0} → ℕ → ℕ → Result A DeskFail → Type 0
IsFaultCounted old new (Err fail.Failed) = new ≡ next old
IsFaultCounted old new _ = new ≡ old

-- what was worked out came with one fault where it is Fault, and else with none
abbrev pub IsOutcomeCounted : ℕ → ℕ → Outcome → Type 0
IsOutcomeCounted old new outcomes.Fault = new ≡ next old
IsOutcomeCounted old new _ = new ≡ old

-- one read more was made, where it is known how many were
abbrev pub and_read : Option ℕ → Option ℕ
and_read known = option_map next known

-- what an action gives on a file, where nothing failed
abbrev pub IsAnswer : Outcome → Type 0
IsAnswer (outcomes.Number n) = Unit
IsAnswer (outcomes.Digest d) = Unit
IsAnswer outcomes.NotThere = Unit
IsAnswer outcomes.TooLong = Unit
IsAnswer _ = ⊥
