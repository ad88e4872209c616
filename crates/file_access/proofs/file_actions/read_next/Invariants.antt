use Rattle.std.specs.Io.KnownBytes.{Keeps}
use Rattle.file_access.proofs.file_actions.read_next.Given as goal

-- the file has what it had
abbrev pub invariant-again : goal.invariant-again
invariant-again g l = Keeps (g.F.Read.remaining l.fn.file) (g.F.Read.remaining l.file)

abbrev pub decreases-again : goal.decreases-again
decreases-again g l = l.retries.left
