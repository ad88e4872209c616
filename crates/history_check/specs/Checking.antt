-- What the check of an input answers, and what it takes of it.
use Rattle.std.specs.Prelude.{ℕ, ◌≡◌, ◌+◌, ◌-◌, ◌<◌, ◌≤◌, ◌⊎◌, Bool, true, false, List, [], ◌++◌, length, take}
use Rattle.std.specs.Prelude.{Option, Some, None, Result, Ok, Err}
use Rattle.std.specs.Io.KnownBytes.{Consumes}
use Rattle.file_access.specs.SinkView.{Rises}
use Rattle.file_access.specs.SourceView.{SourceView}
use Rattle.plan_reader.specs.PlanView.{PlanView}
use Rattle.history_text.specs.Text.{end_text}
use Rattle.history_text.specs.HistoryView.{HistoryView}
use Rattle.history_text.specs.declared.heads.Version.{Version}
use Rattle.history_text.specs.Lines.{is_unbroken, first_line}
use Rattle.history_text.specs.Grammar.{HistoryFits, lines_of}
use Rattle.history_check.specs.LinesView.{LinesView}
use Rattle.history_check.specs.Taking.{Takes}
use Rattle.history_check.specs.CheckView.{CheckView, IsCheckOf}
use Rattle.history_check.specs.Verdict.{IsAnswerTo, IsVerdict}
use Rattle.history_check.specs.Naming.{ArePassedOver, Names, Breaks}
use Rattle.history_check.specs.declared.checks.Checked.{Checked}
use Rattle.history_check.specs.declared.checks.Checked.TheVariants as checked
use Rattle.history_check.specs.declared.fails.CheckFail.{CheckFail}
use Rattle.history_check.specs.declared.fails.CheckFail.TheVariants.{SourceFault, NoMemory}
use Rattle.history_check.specs.declared.inputs.TheConstants.{MAX_INPUT_BYTES}
use Rattle.history_check.specs.declared.lines.TheConstants.{MAX_PIECE}

-- the bytes that may still be taken, as far as they are known
abbrev pub still_given : ℕ → Option (List ℕ) → List ℕ
still_given room None = []
still_given room (Some left) = take room left

-- all bytes that may be taken: these, and what may still be taken behind them
abbrev pub all_given : List ℕ → Option (List ℕ) → List ℕ
all_given came left = came ++ still_given (MAX_INPUT_BYTES - length came) left

-- What came is the text of a history behind lines that are passed over, and this is the answer to its entries.
pub record AnswersHistory (p : PlanView) (came : List ℕ) (a : Checked) : Type 0 where
  pub history : HistoryView
  pub names : Names came history
  pub verdict : IsAnswerTo p history a

-- Of all bytes the text stops being a history at the number that is answered.
pub record AnswersBreak (all : List ℕ) (a : Checked) : Type 0 where
  pub number : ℕ
  pub breaks : Breaks all number
  pub answer : a ≡ checked.NotLawful number

abbrev pub IsAnswer : PlanView → List ℕ → List ℕ → Checked → Type 0
IsAnswer p came all a = AnswersHistory p came a ⊎ AnswersBreak all a

-- What came is the text of a history behind lines that are passed over, and this is its check, with its answer.
pub record EndsHistory (p : PlanView) (came : List ℕ) (c : CheckView) (a : Checked) : Type 0 where
  pub history : HistoryView
  pub names : Names came history
  pub check : IsCheckOf p history c
  pub verdict : IsVerdict c.graph history.locks history.entries a

-- nothing, a first line, or the lines so far of a history
abbrev pub IsFront : List ℕ → Type 0
IsFront front = (front ≡ []) ⊎ ((v : Version) × (front ≡ first_line v)) ⊎ ((h : HistoryView) × HistoryFits h × (front ≡ lines_of h))

-- Lines are passed over, a history may have begun, and behind its last line there is no other whole one: nothing is decided.
pub record IsUndecided (came : List ℕ) : Type 0 where
  pub passed : List ℕ
  pub over : ArePassedOver passed
  pub front : List ℕ
  pub begun : IsFront front
  pub piece : List ℕ
  pub unbroken : is_unbroken piece ≡ true
  pub is : came ≡ passed ++ front ++ piece

-- Nothing was decided before the last bytes came, which are no more than one call takes.
pub record IsJustDecided (came : List ℕ) : Type 0 where
  pub before : List ℕ
  pub last : List ℕ
  pub undecided : IsUndecided before
  pub few : length last ≤ MAX_PIECE
  pub is : came ≡ before ++ last

-- what was taken where the check fails
abbrev pub Fails : SourceView → SourceView → CheckFail → Type 0
Fails old new SourceFault = (came : List ℕ) × Takes old new MAX_INPUT_BYTES came × IsUndecided came × Rises old.faults new.faults
Fails old new NoMemory = (came : List ℕ) × Takes old new MAX_INPUT_BYTES came

-- what was taken, and what is answered of it
abbrev pub Answers : PlanView → SourceView → SourceView → Checked → Type 0
Answers p old new a = (came : List ℕ) × Takes old new MAX_INPUT_BYTES came × IsAnswer p came (all_given came new.left) a × IsJustDecided came

-- what was taken, and what is answered of it by this check
abbrev pub AnswersBy : PlanView → SourceView → SourceView → CheckView → Checked → Type 0
AnswersBy p old new c a = (came : List ℕ) × Takes old new MAX_INPUT_BYTES came
    × (EndsHistory p came c a ⊎ AnswersBreak (all_given came new.left) a) × IsJustDecided came

abbrev pub HasEnded : PlanView → SourceView → SourceView → CheckView → Result Checked CheckFail → Type 0
HasEnded p old new c (Ok a) = AnswersBy p old new c a
HasEnded p old new c (Err fail) = Fails old new fail

abbrev pub HasChecked : PlanView → SourceView → SourceView → Result Checked CheckFail → Type 0
HasChecked p old new (Ok a) = Answers p old new a
HasChecked p old new (Err fail) = Fails old new fail

-- Lines that are passed over were taken, this behind them, and what is ahead, and there is room for the rest that may be taken.
pub record HasTaken (start now : SourceView) (lines : LinesView) (front : List ℕ) : Type 0 where
  pub passed : List ℕ
  pub over : ArePassedOver passed
  pub taken : Consumes start.left now.left (passed ++ (front ++ lines.ahead))
  pub faults : start.faults ≤ now.faults
  pub limit : length (passed ++ (front ++ lines.ahead)) + lines.room ≡ MAX_INPUT_BYTES

-- how many bytes may still be read
abbrev pub unread : LinesView → ℕ
unread lines = length lines.ahead + lines.room

-- Behind so many entries no more is ahead than their end line, and each entry took a byte at least.
pub record HasBytesLeft (count : ℕ) (lines : LinesView) : Type 0 where
  pub ahead : length lines.ahead ≤ length (end_text count)
  pub entries : count + unread lines ≤ MAX_INPUT_BYTES

-- no text of a history, for any plan
abbrev pub FindsNone : SourceView → SourceView → Type 0
FindsNone start now = (came : List ℕ) × Takes start now MAX_INPUT_BYTES came × Breaks (all_given came now.left) 0 × IsJustDecided came

abbrev pub FindsHead : SourceView → SourceView → LinesView → Result (Option Version) CheckFail → Type 0
FindsHead start now lines (Ok (Some v)) = HasTaken start now lines (first_line v)
FindsHead start now lines (Ok None) = FindsNone start now
FindsHead start now lines (Err fail) = Fails start now fail

-- where the first line was found, there is room
abbrev pub FindsRoom : LinesView → Result (Option Version) CheckFail → Type 0
FindsRoom lines (Ok (Some v)) = HasBytesLeft 0 lines
FindsRoom lines (Ok None) = Unit {0}
FindsRoom lines (Err fail) = Unit {0}

-- The lines of a history were taken, of which the check is.
pub record IsUnderway (p : PlanView) (start now : SourceView) (lines : LinesView) (c : CheckView) : Type 0 where
  pub history : HistoryView
  pub fits : HistoryFits history
  pub taken : HasTaken start now lines (lines_of history)
  pub check : IsCheckOf p history c

abbrev pub TakesHead : PlanView → SourceView → SourceView → LinesView → Result (Option CheckView) CheckFail → Type 0
TakesHead p start now lines (Ok (Some c)) = IsUnderway p start now lines c
TakesHead p start now lines (Ok None) = FindsNone start now
TakesHead p start now lines (Err fail) = Fails start now fail

-- a check that opens has counted no entry, and there is room
abbrev pub OpensWithin : LinesView → Result (Option CheckView) CheckFail → Type 0
OpensWithin lines (Ok (Some c)) = (c.count ≡ 0) × HasBytesLeft 0 lines
OpensWithin lines (Ok None) = Unit {0}
OpensWithin lines (Err fail) = Unit {0}

-- where no answer comes, less is left to be read, and there is room
abbrev pub Shortens : LinesView → LinesView → CheckView → Result (Option Checked) CheckFail → Type 0
Shortens was is new (Ok None) = (unread is < unread was) × HasBytesLeft new.count is
Shortens was is new (Ok (Some a)) = Unit {0}
Shortens was is new (Err fail) = Unit {0}

abbrev pub GoesOn : PlanView → SourceView → SourceView → LinesView → CheckView → Result (Option Checked) CheckFail → Type 0
GoesOn p start now lines c (Ok None) = IsUnderway p start now lines c
GoesOn p start now lines c (Ok (Some a)) = AnswersBy p start now c a
GoesOn p start now lines c (Err fail) = Fails start now fail
