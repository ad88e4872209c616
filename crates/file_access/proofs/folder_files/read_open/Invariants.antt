use Rattle.std.proofs.Common.{◌+◌, ◌-◌, length}
use Rattle.std.specs.Io.KnownBytes.{Consumes}
use Rattle.file_access.proofs.folder_files.read_open.Given as goal

abbrev pub invariant-loop-alloc : goal.invariant-loop-alloc
invariant-loop-alloc g l = Consumes (g.F.Read.remaining l.fn.file) (g.F.Read.remaining l.file) l.buffer

-- a read brings a byte, or uses up a retry
abbrev pub decreases-loop-alloc : goal.decreases-loop-alloc
decreases-loop-alloc g l = l.limit + 1 - length l.buffer + l.retries.left
