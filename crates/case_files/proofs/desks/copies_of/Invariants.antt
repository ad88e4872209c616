use Rattle.std.proofs.Common.{◌≡◌, take}
use Rattle.memory_files.specs.Folders.{folder_of}
use Rattle.case_files.proofs.desks.copies_of.Given as goal

-- the files so far are copied
abbrev pub invariant-loop-file : goal.invariant-loop-file
invariant-loop-file l = folder_of l.copies.items ≡ folder_of (take l.file-index l.files)
