-- What there is under a name, as its opening tells, and what becomes of an error.
use Rattle.std.specs.Prelude.{◌≡◌, ◌≢◌, ℕ, List, Option, Some, None, Result, Ok, Err, ⊤}
use Rattle.std.specs.IoError.{error_kind}
use Rattle.std.specs.declared.io.Error.{Error}
use Rattle.std.specs.declared.io.ErrorKind.{ErrorKind}
use Rattle.std.specs.declared.io.ErrorKind.TheVariants.{NotFound, OutOfMemory}
use Rattle.file_access.specs.declared.files.DeskFail.{DeskFail}
use Rattle.file_access.specs.declared.files.DeskFail.TheVariants as fail

-- Where it is known what there is under a name, its opening gives a file with those bytes left, or an error. That is NotFound only where there is none.
abbrev pub Opens : {F : Type 0} → (F → Option (List ℕ)) → Option (List ℕ) → Result F Error → Type 0
Opens left None (Ok file) = ⊥
Opens left None (Err error) = ⊤
Opens left (Some bytes) (Ok file) = left file ≡ Some bytes
Opens left (Some bytes) (Err error) = error_kind error ≢ NotFound

-- want of memory is told as such, and each other kind of error as Failed
abbrev pub fail_of : ErrorKind → DeskFail
fail_of OutOfMemory = fail.NoMemory
fail_of _ = fail.Failed
