use Rattle.std.proofs.Common.{◌<◌, length, ap, ◌∙◌, subst, sym}
use Rattle.lock_journal.specs.Names.{GraphView, action_of, task_of, GraphAction}
use Rattle.worker_notes.proofs.parts.lock_given_back.Goals as goal

pub action_of-waited-requires : goal.action_of-waited-requires
action_of-waited-requires c = subst (λ (g : GraphView). c.args.action < length g.actions) (sym c.graph.ensures.value) c.requires

pub lock_of-requires : goal.lock_of-requires
lock_of-requires c = subst (λ (g : GraphView). c.action_of-waited.result.task < length g.tasks) c.graph.ensures.value c.action_of-waited.ensures.task

pub returns-in-ReleaseAndReacquire-clause-again : goal.returns-in-ReleaseAndReacquire-clause-again
returns-in-ReleaseAndReacquire-clause-again c =
    let found = c.action_of-waited.ensures.value ∙ ap (λ (g : GraphView). action_of g c.args.action) c.graph.ensures.value in
    sym (ap (λ (a : GraphAction). a.retention) found) ∙ c.in-ReleaseAndReacquire.is

pub returns-in-ReleaseAndReacquire-clause-lock : goal.returns-in-ReleaseAndReacquire-clause-lock
returns-in-ReleaseAndReacquire-clause-lock c =
    let found = c.action_of-waited.ensures.value ∙ ap (λ (g : GraphView). action_of g c.args.action) c.graph.ensures.value in
    c.lock_of.ensures ∙ ap (λ (a : GraphAction). (task_of c.args.book.now.graph a.task).lock) found
