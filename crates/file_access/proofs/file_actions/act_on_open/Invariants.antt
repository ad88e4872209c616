use Rattle.std.proofs.Common.{◌≡◌, ℕ, ◌+◌, List, length}
use Rattle.std.specs.Io.KnownBytes.{Consumes}
use Rattle.item_actions.specs.States.{IsStateOf}
use Rattle.file_access.proofs.file_actions.act_on_open.Given as goal

-- these bytes came, and the state is theirs
abbrev pub invariant-pieces : goal.invariant-pieces
invariant-pieces g l = (seen : List ℕ) × (length seen + l.left ≡ 4194305) × Consumes (g.F.Read.remaining l.fn.file) (g.F.Read.remaining l.file) seen × IsStateOf l.state l.action seen

abbrev pub decreases-pieces : goal.decreases-pieces
decreases-pieces g l = l.left
