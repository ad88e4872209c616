-- What the workers of a run saw, as a text: a line with the number of watches, and a line for each.
use Rattle.std.specs.Prelude.{ℕ, List, ◌++◌, codes, decimal, length}
use Rattle.std.specs.List.{flat_map}
use Rattle.run_watch.specs.declared.boards.Watch.{Watch}

-- the line of a watch
abbrev pub watch_text : Watch → List ℕ
watch_text w = codes "watch unit " ++ decimal w.unit ++ codes " at " ++ decimal w.entries ++ codes " leases " ++ decimal w.leases ++ codes "\n"

abbrev pub watches_text : List Watch → List ℕ
watches_text watches = codes "watch " ++ decimal (length watches) ++ codes "\n" ++ flat_map watch_text watches
