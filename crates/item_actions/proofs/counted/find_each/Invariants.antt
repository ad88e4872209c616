use Rattle.std.proofs.Common.{◌≤◌, ◌-◌, length}
use Rattle.item_actions.specs.NeedleMatches.{CountsOn}
use Rattle.item_actions.proofs.counted.find_each.Given as goal

abbrev pub invariant-loop-place : goal.invariant-loop-place
invariant-loop-place l = record {
  counted : CountsOn l.needle l.bytes l.found l.end;
  few : l.found ≤ l.end;
}

abbrev pub decreases-loop-place : goal.decreases-loop-place
decreases-loop-place l = length l.bytes - l.end
