use Rattle.std.proofs.Common.{◌≡◌, ◌≢◌, ◌∷◌, [], ◌∙◌, eqb, sym}
use Rattle.std.proofs.lemmas.Bool.{eqb-false, or_parts}
use Rattle.ready_work.specs.DependencyCounts.{count_of}
use Rattle.ready_work.specs.TaskSets.{IsSeen}
use Rattle.ready_work.proofs.TaskLooks.{looks_at_fewer, looks_at_nowhere, none_due, seen_one}
use Rattle.ready_work.proofs.task_sets.TaskSets.look_where_due.Goals as goal

pub returns-then-is_due-clause-tasks : goal.returns-then-is_due-clause-tasks
returns-then-is_due-clause-tasks c =
    let unpassed = c.args.self.now.unpassed in
    looks_at_fewer c.args.state.now (λ k. k ≡ c.args.task) (IsSeen c.args.is_each unpassed (c.args.task ∷ [])) c.args.self.now c.look_at.new.self (seen_one c.args.is_each unpassed c.args.task) c.look_at.ensures.tasks

pub returns-else-is_due-clause-tasks : goal.returns-else-is_due-clause-tasks
returns-else-is_due-clause-tasks c =
    let unpassed = c.args.self.now.unpassed in
    let parts = or_parts c.args.is_each (eqb c.count.result 0) (sym c.is_due.ensures ∙ c.if-is_due.false) in
    let some : count_of unpassed c.args.task ≢ 0 = λ none. eqb-false c.count.result 0 parts.1 (c.count.ensures ∙ none) in
    looks_at_nowhere c.args.state.now (IsSeen c.args.is_each unpassed (c.args.task ∷ [])) c.args.self.now (none_due c.args.is_each unpassed c.args.task parts.0 some)
