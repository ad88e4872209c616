use Rattle.std.proofs.Common.{◌<◌, ℕ, List, length, sym, subst}
use Rattle.std.specs.List.{All}
use Rattle.ready_work.specs.DependencyCounts.{CanPut}
use Rattle.ready_work.specs.TaskSets.{HasTaskRoom, NotesTask}
use Rattle.ready_work.proofs.AfterLists.{all_within}
use Rattle.ready_work.proofs.Counting.{can_put}
use Rattle.ready_work.proofs.Following.{noted_task}
use Rattle.ready_work.proofs.ready_works.ReadyWork.note_task.Goals as goal

pub note-requires-clause-in_range : goal.note-requires-clause-in_range
note-requires-clause-in_range c =
    subst (λ (n : ℕ). All (λ (k : ℕ). k < n) c.at-dependents.result.now) (sym c.requires.belongs.tasks)
    (subst (All (λ (k : ℕ). k < length c.args.graph.now.tasks))
    (sym c.at-dependents.ensures)
    (all_within c.args.graph.now c.args.self.now.dependents c.args.task c.requires.made.dependents))

pub note-requires-clause-room : goal.note-requires-clause-room
note-requires-clause-room c = subst (λ (n : ℕ). HasTaskRoom n c.args.self.now.tasks) (sym c.requires.belongs.tasks) c.requires.made.tasks

pub note-requires-clause-unpassed : goal.note-requires-clause-unpassed
note-requires-clause-unpassed c =
    subst (λ (row : List ℕ). CanPut row c.args.task c.args.self.now.tasks.unpassed)
    (sym c.at-dependents.ensures)
    (can_put c.args.graph.now c.args.self.now.dependents c.args.task c.args.self.now.tasks.unpassed c.requires.made.fits c.requires.made.dependents c.requires.made.tasks.unpassed c.requires.made.dependency_counts.unpassed c.requires.within)

pub note-requires-clause-fallen : goal.note-requires-clause-fallen
note-requires-clause-fallen c =
    subst (λ (row : List ℕ). CanPut row c.args.task c.args.self.now.tasks.fallen)
    (sym c.at-dependents.ensures)
    (can_put c.args.graph.now c.args.self.now.dependents c.args.task c.args.self.now.tasks.fallen c.requires.made.fits c.requires.made.dependents c.requires.made.tasks.fallen c.requires.made.dependency_counts.fallen c.requires.within)

pub returns-clause-tasks : goal.returns-clause-tasks
returns-clause-tasks c =
    noted_task c.args.graph.now c.args.state.now c.args.self.now.dependents c.args.task c.args.self.now.tasks c.note.new.self c.requires.made.dependents
    (subst (λ (row : List ℕ). NotesTask c.args.state.now row c.args.task c.args.self.now.tasks c.note.new.self)
    c.at-dependents.ensures
    c.note.ensures.notes)
