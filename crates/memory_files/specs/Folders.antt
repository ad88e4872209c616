-- The files of a list of entries.
use Rattle.std.specs.Prelude.{List, map}
use Rattle.item_actions.specs.Files.{Folder}
use Rattle.memory_files.specs.declared.file_map.FileEntry.{FileEntry}

abbrev pub folder_of : List FileEntry → Folder
folder_of entries = map (λ entry. (entry.name, entry.bytes.items)) entries
