use Rattle.std.proofs.Common.{◌≡◌, length}
use Rattle.std.specs.Prelude.{IfSome}
use Rattle.std.specs.List.{All}
use Rattle.memory_files.specs.Folders.{folder_of}
use Rattle.memory_desk.specs.MemoryDeskView.{MemoryDeskView, known_files}
use Rattle.case_files.proofs.desks.desks_of.Given as goal

-- as many desks as turns, and each that knows its files has these
abbrev pub invariant-loop-desk : goal.invariant-loop-desk
invariant-loop-desk l = (length l.desks.items ≡ l.desk) × All
    (λ (desk : MemoryDeskView). IfSome (known_files desk) (λ known. known ≡ folder_of l.fn.case.files.items)) l.desks.items
