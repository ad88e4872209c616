-- The exit status and the line of each way in which a call ends.
use Rattle.std.specs.Prelude.{ℕ, ◌≡◌, ◌⊎◌, List, [], ◌++◌, codes, decimal}
use Rattle.file_access.specs.SinkView.{SinkView, Wrote, Broke}
use Rattle.leases_picture.specs.declared.status.Status.{Status}
use Rattle.leases_picture.specs.declared.status.Status.TheVariants.{Drawn, BadWords, SinkFault, SourceFault, NoHistory, NoMemory, TooLarge}

abbrev pub number_of : Status → ℕ
number_of Drawn = 0
number_of BadWords = 2
number_of SinkFault = 6
number_of SourceFault = 8
number_of (NoHistory n) = 9
number_of NoMemory = 10
number_of TooLarge = 13

abbrev pub line_of : Status → List ℕ
line_of BadWords = codes "bad words\n"
line_of SourceFault = codes "input not read\n"
line_of TooLarge = codes "too large\n"
line_of (NoHistory n) = codes "not lawful at " ++ decimal n ++ codes "\n"
line_of _ = []

-- the line was written, or the sink failed within it
abbrev pub IsToldAs : Status → SinkView → SinkView → Status → Type 0
IsToldAs status old new ended = ((ended ≡ status) × Wrote old new (line_of status)) ⊎ ((ended ≡ SinkFault) × Broke old new (line_of status))
