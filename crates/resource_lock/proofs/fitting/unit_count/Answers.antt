use Rattle.std.proofs.Common.{sym, ◌∙◌}
use Rattle.std.specs.List.{sum_by}
use Rattle.resource_lock.specs.Ranges.{units_in}
use Rattle.resource_lock.proofs.Follows.{last_range}
use Rattle.resource_lock.proofs.fitting.unit_count.Goals as goal

pub returns-in-Some : goal.returns-in-Some
returns-in-Some c = c.units_end.ensures ∙ last_range (λ a. a.first_unit) units_in c.args.actions.now (sum_by units_in c.args.actions.now) c.in-Some.action.now (sym c.in-Some.ensures.value) c.requires
