use Rattle.std.proofs.Common.{◌≡◌, drop}
use Rattle.item_actions.specs.Files.{file_of}
use Rattle.memory_files.specs.Folders.{folder_of}
use Rattle.memory_files.proofs.file_map.FileMap.find.Given as goal

abbrev pub invariant-loop-entry : goal.invariant-loop-entry
invariant-loop-entry l = file_of l.fn.self l.name ≡ file_of (folder_of (drop l.entry-index l.entry-items)) l.name
