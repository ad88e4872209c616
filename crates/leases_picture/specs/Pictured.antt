-- What a call of the program draws, or tells.
use Rattle.std.specs.Prelude.{ℕ, ◌≡◌, ◌⊎◌, List, Some}
use Rattle.file_access.specs.SinkView.{SinkView, Wrote, Broke, Rises}
use Rattle.file_access.specs.SourceView.{SourceView}
use Rattle.history_check.specs.Naming.{Breaks}
use Rattle.history_text.specs.HistoryView.{HistoryView}
use Rattle.run_picture.specs.Picture.{picture_text, stray_from, IsDrawable, IsTooLarge}
use Rattle.leases_picture.specs.Ends.{IsToldAs}
use Rattle.leases_picture.specs.Found.{HasHistory}
use Rattle.leases_picture.specs.Taking.{TakesAll}
use Rattle.leases_picture.specs.declared.status.Status.{Status}
use Rattle.leases_picture.specs.declared.status.Status.TheVariants.{Drawn, SinkFault, SourceFault, NoHistory, NoMemory, TooLarge}

-- nothing was written for want of memory
pub record IsOutOfMemory (old new : SinkView) (status : Status) : Type 0 where
  pub status_is : status ≡ NoMemory
  pub nothing : new ≡ old

-- an entry is of a worker that the head doesn't have, and that was told
pub record TellsStray (h : HistoryView) (old new : SinkView) (status : Status) : Type 0 where
  pub number : ℕ
  pub stray : stray_from h.workers 1 h.entries ≡ Some number
  pub told : IsToldAs (NoHistory number) old new status

-- the picture of the history was written, or the sink failed within it
abbrev pub IsDrawnAs : HistoryView → SinkView → SinkView → Status → Type 0
IsDrawnAs h old new status =
    ((status ≡ Drawn) × IsDrawable h × Wrote old new (picture_text h)) ⊎ ((status ≡ SinkFault) × IsDrawable h × Broke old new (picture_text h))
    ⊎ (IsTooLarge h × IsToldAs TooLarge old new status) ⊎ TellsStray h old new status ⊎ IsOutOfMemory old new status

-- the history that stands in the text was drawn, or that was refused
pub record DrawsHistory (text : List ℕ) (old new : SinkView) (status : Status) : Type 0 where
  pub history : HistoryView
  pub stands : HasHistory text history
  pub drawn : IsDrawnAs history old new status

-- the text stops being a history, and that was told
pub record TellsBreak (text : List ℕ) (old new : SinkView) (status : Status) : Type 0 where
  pub number : ℕ
  pub breaks : Breaks text number
  pub told : IsToldAs (NoHistory number) old new status

abbrev pub IsAnswered : List ℕ → SinkView → SinkView → Status → Type 0
IsAnswered text old new status = DrawsHistory text old new status ⊎ TellsBreak text old new status ⊎ IsOutOfMemory old new status

-- the input was read, and this is the answer to it
pub record AnswersInput (given left : SourceView) (old new : SinkView) (status : Status) : Type 0 where
  pub text : List ℕ
  pub takes : TakesAll given left text
  pub answered : IsAnswered text old new status

-- the input failed, and that was told
pub record TellsFault (given left : SourceView) (old new : SinkView) (status : Status) : Type 0 where
  pub fault : Rises given.faults left.faults
  pub told : IsToldAs SourceFault old new status

abbrev pub HasPictured : SourceView → SourceView → SinkView → SinkView → Status → Type 0
HasPictured given left old new status = AnswersInput given left old new status ⊎ TellsFault given left old new status ⊎ IsOutOfMemory old new status
