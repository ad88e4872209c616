use Rattle.std.proofs.Common.{◌≡◌, ◌+◌, ◌↔◌, drop}
use Rattle.std.specs.List.{sum_by}
use Rattle.resource_lock.specs.Fits.{Follow}
use Rattle.resource_lock.specs.Ranges.{units_in}
use Rattle.resource_lock.proofs.fitting.units_follow.Given as goal

-- what is asked of all actions is what is asked of those that are left
abbrev pub invariant-loop-action : goal.invariant-loop-action
invariant-loop-action l = record {
  left : Follow (λ a. a.first_unit) units_in 0 l.actions (sum_by units_in l.actions) ↔ Follow (λ a. a.first_unit) units_in l.next (drop l.action-index l.actions) (sum_by units_in l.actions);
  sum : l.next + sum_by units_in (drop l.action-index l.actions) ≡ sum_by units_in l.actions;
}
