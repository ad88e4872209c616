use Rattle.std.proofs.Common.{◌≡◌, drop}
use Rattle.run_spans.specs.Levels.{after_changes}
use Rattle.run_spans.proofs.levels.after_changes.Given as goal

-- what is left leads on to what all lead to
abbrev pub invariant-loop-change : goal.invariant-loop-change
invariant-loop-change l = after_changes l.level (drop l.change-index l.changes) ≡ after_changes l.fn.level l.changes
