use Rattle.std.proofs.Common.{◌≡◌, length}
use Rattle.std.specs.Io.KnownBytes.{Keeps}
use Rattle.file_access.proofs.std_source.take_from.Given as goal

-- the reader has what it had
abbrev pub invariant-loop-taken : goal.invariant-loop-taken
invariant-loop-taken g l = (length l.buffer ≡ length l.fn.buffer) × Keeps (g.R.Read.remaining l.fn.reader) (g.R.Read.remaining l.reader)

abbrev pub decreases-loop-taken : goal.decreases-loop-taken
decreases-loop-taken g l = l.retries.left
