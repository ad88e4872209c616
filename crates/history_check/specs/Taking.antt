-- What taking lines does to a source.
use Rattle.std.specs.Prelude.{ℕ, ◌≡◌, ◌+◌, ◌<◌, ◌≤◌, ◌⊎◌, Bool, true, false, List, [], ◌++◌, length, get_or, Option, Result, Ok, Err}
use Rattle.std.specs.Io.KnownBytes.{Consumes, IsAtEnd}
use Rattle.file_access.specs.SinkView.{Rises}
use Rattle.file_access.specs.SourceView.{SourceView}
use Rattle.history_text.specs.Lines.{is_unbroken, IsLine}
use Rattle.history_check.specs.LinesView.{LinesView}
use Rattle.history_check.specs.declared.fails.CheckFail.{CheckFail}
use Rattle.history_check.specs.declared.fails.CheckFail.TheVariants.{SourceFault, NoMemory}
use Rattle.history_check.specs.declared.lines.Expected.{Expected}
use Rattle.history_check.specs.declared.lines.Expected.TheVariants.{Any, EntryOrEnd}
use Rattle.history_check.specs.declared.lines.TheConstants.{ENTRY_OVER_END, MAX_PIECE}

-- these bytes were taken, and there was room for them
pub record Takes (old new : SourceView) (room : ℕ) (piece : List ℕ) : Type 0 where
  pub taken : Consumes old.left new.left piece
  pub faults : old.faults ≤ new.faults
  pub few : length piece ≤ room

-- the last line of a text may begin so: where an entry may come in its place, that line is the end line, which begins with an `e`
abbrev pub MayEnd : Expected → List ℕ → Type 0
MayEnd Any begun = Unit {0}
MayEnd EntryOrEnd begun = get_or begun 0 101 ≡ 101

-- the line that begins so, and has no line end yet, isn't the last
abbrev pub IsNotLast : Expected → ℕ → List ℕ → Type 0
IsNotLast expected least begun = (least ≤ length begun) ⊎ ¬ MayEnd expected begun

-- how many bytes a line has at the least that isn't the last, as far as so many are counted on
abbrev pub shortest : Expected → ℕ → ℕ
shortest Any least = least
shortest EntryOrEnd least = least + ENTRY_OVER_END

-- So many bytes more of a line that begins so and has no line end yet: up to the least. Of a line that isn't the last, up to the shortest or
-- to the line end, and the least behind that.
abbrev pub MayTake : Expected → ℕ → List ℕ → ℕ → Type 0
MayTake expected least begun more = (length begun + more ≤ least)
    ⊎ (IsNotLast expected least begun × ((length begun + more ≤ shortest expected least + least) ⊎ (more ≤ 1 + least)))

-- the bytes were a line and what is ahead
pub record SplitsLine (looked : ℕ) (was is : LinesView) : Type 0 where
  pub whole : IsLine is.line
  pub bytes : was.line ≡ is.line ++ is.ahead
  pub behind : looked < length is.line
  pub room : is.room ≡ was.room

abbrev pub Splits : ℕ → LinesView → LinesView → Result Bool CheckFail → Type 0
Splits looked was is (Ok true) = SplitsLine looked was is
Splits looked was is (Ok false) = (is_unbroken was.line ≡ true) × (is ≡ was)
Splits looked was is (Err SourceFault) = ⊥
Splits looked was is (Err NoMemory) = Unit {0}

-- the line grew by the bytes that were taken
pub record Grows (most : ℕ) (old new : SourceView) (was is : LinesView) : Type 0 where
  pub piece : List ℕ
  pub takes : Takes old new was.room piece
  pub few : length piece ≤ most
  pub room : is.room + length piece ≡ was.room
  pub line : is.line ≡ was.line ++ piece
  pub ahead : is.ahead ≡ was.ahead

-- no more may be taken: there is no room, or no byte left
abbrev pub IsOver : Option (List ℕ) → LinesView → Type 0
IsOver left is = (is.room ≡ 0) ⊎ IsAtEnd left

abbrev pub TakesPiece : ℕ → SourceView → SourceView → LinesView → LinesView → Result Bool CheckFail → Type 0
TakesPiece most old new was is (Ok true) = Grows most old new was is × (is.room < was.room)
TakesPiece most old new was is (Ok false) = Takes old new was.room [] × (is ≡ was) × IsOver new.left is
TakesPiece most old new was is (Err SourceFault) = Takes old new was.room [] × Rises old.faults new.faults
TakesPiece most old new was is (Err NoMemory) = (piece : List ℕ) × Takes old new was.room piece

-- what was read ahead of the line was taken: whether it has its line end
abbrev pub TakesRest : SourceView → SourceView → LinesView → LinesView → Result Bool CheckFail → Type 0
TakesRest old new was is (Ok true) = Grows was.room old new was is × IsLine is.line
TakesRest old new was is (Ok false) = Grows was.room old new was is × (is_unbroken is.line ≡ true)
TakesRest old new was is (Err SourceFault) = ⊥
TakesRest old new was is (Err NoMemory) = Takes old new was.room []

-- The next line was taken, and so was what is ahead.
pub record TakesNext (old new : SourceView) (was is : LinesView) : Type 0 where
  pub piece : List ℕ
  pub takes : Takes old new was.room piece
  pub room : is.room + length piece ≡ was.room
  pub bytes : was.ahead ++ piece ≡ is.line ++ is.ahead

-- the line is a piece without a line end, nothing is ahead, and no more may be taken
pub record IsCutOff (left : Option (List ℕ)) (is : LinesView) : Type 0 where
  pub unbroken : is_unbroken is.line ≡ true
  pub alone : is.ahead ≡ []
  pub over : IsOver left is

-- whether the line has its end, or is what there was of it
abbrev pub EndsLine : Option (List ℕ) → LinesView → Bool → Type 0
EndsLine left is true = IsLine is.line
EndsLine left is false = IsCutOff left is

-- Behind a line that isn't too short at most so many bytes are ahead. Together with a line that isn't longer, and may be the last, they are at
-- most as many.
pub record StaysWithin (expected : Expected) (least : ℕ) (is : LinesView) : Type 0 where
  pub few : length is.ahead < MAX_PIECE
  pub ahead : shortest expected least ≤ length is.line → length is.ahead ≤ least
  pub line : MayEnd expected is.line → length is.line ≤ least → length is.line + length is.ahead ≤ least

-- a piece was taken, and the line that it is of is lost
abbrev pub LosesPiece : SourceView → SourceView → LinesView → CheckFail → Type 0
LosesPiece old new was SourceFault = (piece : List ℕ) × Takes old new was.room piece × (is_unbroken (was.ahead ++ piece) ≡ true) × Rises old.faults new.faults
LosesPiece old new was NoMemory = (piece : List ℕ) × Takes old new was.room piece

-- one line was taken, or what there was of it
abbrev pub TakesLine : Expected → ℕ → SourceView → SourceView → LinesView → LinesView → Result Bool CheckFail → Type 0
TakesLine expected least old new was is (Ok whole) = TakesNext old new was is × EndsLine new.left is whole × StaysWithin expected least is
TakesLine expected least old new was is (Err fail) = LosesPiece old new was fail
