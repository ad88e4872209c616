use Rattle.std.proofs.Common.{◌≡◌, vec_len}
use Rattle.memory_budget.proofs.runs.stop_each.Given as goal

-- the desk knows and has sent what it did
abbrev pub invariant-loop-link : goal.invariant-loop-link
invariant-loop-link g l =
    (g.D.Files.files l.desk ≡ g.D.Files.files l.initial.desk) × (g.D.Files.reads l.desk ≡ g.D.Files.reads l.initial.desk) × (g.D.Files.faults l.desk ≡ g.D.Files.faults l.initial.desk)
    × (g.D.Desk.sends l.desk ≡ g.D.Desk.sends l.initial.desk) × (g.D.Desk.sent l.desk ≡ g.D.Desk.sent l.initial.desk)

-- each turn stops one
abbrev pub decreases-loop-link : goal.decreases-loop-link
decreases-loop-link g l = vec_len l.links
