use Rattle.file_access.proofs.folder_files.open.Given as goal

abbrev pub decreases-loop-retries : goal.decreases-loop-retries
decreases-loop-retries g l = l.retries.left
