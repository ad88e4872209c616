-- The files that an opener opens.
use Rattle.std.specs.Prelude.{ℕ}

-- what opens them, and the count of faults
pub record FolderFilesView (O : Type 0) : Type 0 where
  pub opener : O
  pub faults : ℕ
