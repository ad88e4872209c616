-- A desk of the current folder, and how it counts.
use Rattle.std.specs.Prelude.{ℕ, List, Result, Err}
use Rattle.file_access.specs.Calls.{next}
use Rattle.file_access.specs.declared.files.DeskFail.{DeskFail}
use Rattle.file_access.specs.declared.files.DeskFail.TheVariants.{Failed}

-- what opens the files, the program that `self` means, and the counts of the faults, of the reads and of the requests sent
pub record FolderDeskView (R : Type 0) : Type 0 where
  pub opener : R
  pub program : List ℕ
  pub faults : ℕ
  pub reads : ℕ
  pub sends : ℕ

-- the desk after this answer of a call: a fault is counted
abbrev pub after_answer : {R T : Type 0} → Result T DeskFail → FolderDeskView R → FolderDeskView R
after_answer (Err Failed) desk = record desk { faults = next desk.faults }
after_answer _ desk = desk

-- the desk after a read with this answer
abbrev pub after_read : {R T : Type 0} → Result T DeskFail → FolderDeskView R → FolderDeskView R
after_read answer desk = after_answer answer (record desk { reads = next desk.reads })
