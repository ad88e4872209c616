-- Files by name.
use Rattle.std.specs.Prelude.{ℕ, List, [], ◌∷◌, Option, None, Some, if◌then◌else◌}
use Rattle.std.specs.Str.{bytes_eq}

-- names, each with the bytes of its file; a name counts where it stands first
abbrev pub Folder : Type 0
Folder = List (List ℕ × List ℕ)

-- the bytes of the file of this name, if there is one
abbrev pub file_of : Folder → List ℕ → Option (List ℕ)
file_of [] name = None
file_of (f ∷ files) name = if bytes_eq f.0 name then Some f.1 else file_of files name
