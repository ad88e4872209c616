use Rattle.std.specs.Option.{IfNone, IfSome}
use Rattle.std.proofs.lemmas.Option.{IfSome_then}
use Rattle.ready_work.specs.Lowest.{IsLowest, IsNone}
use Rattle.ready_work.specs.StartableTasksView.{StartableTasksView, IsUnowned}
use Rattle.ready_work.specs.StartableTasks.{startable_tasks_view}
use Rattle.ready_work.proofs.Heads.{first_head, no_head}
use Rattle.ready_work.proofs.Sets.{none_then}
use Rattle.std.proofs.Common.{subst}
use Rattle.ready_work.proofs.startable_tasks.StartableTasks.first.Goals as goal

pub returns-clause-some : goal.returns-clause-some
returns-clause-some c = subst (λ (all : StartableTasksView). IfSome c.first.result (IsLowest (IsUnowned all))) c.self.view_is
    (IfSome_then c.first.result c.first.ensures.some (λ n low. first_head (startable_tasks_view c.self.inside) c.self.inside.heads n c.self.invariant.heads low))

pub returns-clause-none : goal.returns-clause-none
returns-clause-none c = subst (λ (all : StartableTasksView). IfNone c.first.result (IsNone (IsUnowned all))) c.self.view_is
    (none_then c.first.result (no_head (startable_tasks_view c.self.inside) c.self.inside.heads c.self.invariant.heads) c.first.ensures.none)
