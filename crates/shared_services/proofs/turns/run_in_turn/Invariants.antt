use Rattle.std.proofs.Common.{◌≡◌, take}
use Rattle.shared_services.specs.Worked.{HasRun}
use Rattle.shared_services.proofs.turns.run_in_turn.Given as goal

-- the jobs so far were run
abbrev pub invariant-loop-job : goal.invariant-loop-job
invariant-loop-job g l =
    (l.pass.service ≡ l.fn.pass.service)
    × (g.F.Files.files l.desk ≡ g.F.Files.files l.fn.desk)
    × HasRun l.table (g.F.Files.files l.fn.desk) (g.F.Files.faults l.fn.desk) (g.F.Files.faults l.desk) l.fn.pass.sight (take l.job-index l.jobs) l.pass.sight l.done.items
