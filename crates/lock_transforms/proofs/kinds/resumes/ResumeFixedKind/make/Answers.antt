use Rattle.std.proofs.Common.{◌≡◌, List, ◌++◌, ◌∷◌, [], false, sym, ◌∙◌, ap, subst}
use Rattle.resource_lock.specs.GraphView.{GraphView, action_of, task_of}
use Rattle.resource_lock.specs.Ranges.{lock_with}
use Rattle.resource_lock.specs.declared.changes.Change.{Change}
use Rattle.resource_lock.specs.declared.changes.Change.TheVariants.{Move}
use Rattle.resource_lock.specs.declared.graphs.GraphAction.{GraphAction}
use Rattle.resource_lock.specs.declared.ids.LockId.{LockId}
use Rattle.resource_lock.specs.declared.ids.WorkerId.{WorkerId}
use Rattle.resource_lock.specs.declared.marks.Mark.TheVariants.{Running, Passed}
use Rattle.resource_lock.specs.declared.marks.MarkId.TheVariants.{Action as ActionOf}
use Rattle.lock_transforms.specs.Making.{Makes}
use Rattle.lock_transforms.specs.Table.{on_resume}
use Rattle.lock_transforms.proofs.Makings.{makes_stopped, makes_then}
use Rattle.lock_transforms.proofs.kinds.resumes.ResumeFixedKind.make.Goals as goal

pub returns-then-take_again-clause-made : goal.returns-then-take_again-clause-made
returns-then-take_again-clause-made c =
    let g = c.args.work.now.graph in
    let a = c.args.self.now.action in
    let action : c.action_of-action.result ≡ action_of g a = c.action_of-action.ensures.value ∙ ap (λ (h : GraphView). action_of h a) c.graph.ensures.value in
    let lock : c.lock_of-lock.result ≡ lock_with g a =
    c.lock_of-lock.ensures.value
    ∙ ap (λ (h : GraphView). (task_of h c.action_of-action.result.task).lock) c.graph-2.ensures.value
    ∙ ap (λ (it : GraphAction). (task_of g it.task).lock) action in
    let moved = λ (w : WorkerId). Move (ActionOf a) (Running w) Passed ∷ [] in
    let is : on_resume c.action_of-action.result.retention c.lock_of-lock.result ++ moved c.worker.result ≡ on_resume (action_of g a).retention (lock_with g a) ++ moved c.args.work.now.worker =
    ap (λ (it : GraphAction). on_resume it.retention c.lock_of-lock.result ++ moved c.worker.result) action
    ∙ ap (λ (l : LockId). on_resume (action_of g a).retention l ++ moved c.worker.result) lock
    ∙ ap (λ (w : WorkerId). on_resume (action_of g a).retention (lock_with g a) ++ moved w) c.worker.ensures.value in
    subst (λ (l : List Change). Makes c.args.work.now c.try_change.new.work l c.try_change.result) is (makes_then c.if-take_again.ensures.made c.try_change.ensures)

pub returns-else-take_again-clause-made : goal.returns-else-take_again-clause-made
returns-else-take_again-clause-made c =
    let g = c.args.work.now.graph in
    let a = c.args.self.now.action in
    let action : c.action_of-action.result ≡ action_of g a = c.action_of-action.ensures.value ∙ ap (λ (h : GraphView). action_of h a) c.graph.ensures.value in
    let lock : c.lock_of-lock.result ≡ lock_with g a =
    c.lock_of-lock.ensures.value
    ∙ ap (λ (h : GraphView). (task_of h c.action_of-action.result.task).lock) c.graph-2.ensures.value
    ∙ ap (λ (it : GraphAction). (task_of g it.task).lock) action in
    let moved = λ (w : WorkerId). Move (ActionOf a) (Running w) Passed ∷ [] in
    let is : on_resume c.action_of-action.result.retention c.lock_of-lock.result ++ moved c.worker.result ≡ on_resume (action_of g a).retention (lock_with g a) ++ moved c.args.work.now.worker =
    ap (λ (it : GraphAction). on_resume it.retention c.lock_of-lock.result ++ moved c.worker.result) action
    ∙ ap (λ (l : LockId). on_resume (action_of g a).retention l ++ moved c.worker.result) lock
    ∙ ap (λ (w : WorkerId). on_resume (action_of g a).retention (lock_with g a) ++ moved w) c.worker.ensures.value in
    subst (λ r. Makes c.args.work.now c.take_again.new.work (on_resume (action_of g a).retention (lock_with g a) ++ moved c.args.work.now.worker) r) (sym c.if-take_again.false)
    (subst (λ (l : List Change). Makes c.args.work.now c.take_again.new.work l false) is (makes_stopped (moved c.worker.result) c.if-take_again.ensures.made))
