use Rattle.std.proofs.Common.{◌<◌, ap, arith, length, subst, sym}
use Rattle.lock_journal.specs.Names.{GraphView, LockId, StateView}
use Rattle.lock_transforms.proofs.lemmas.Within.{task_read}
use Rattle.worker_choices.proofs.next_steps.lock_is_free.Goals as goal

pub owner-requires : goal.owner-requires
owner-requires c =
    let within = subst (λ (g : GraphView). c.args.task < length g.tasks) (sym c.graph.ensures.value) c.requires in
    let read = task_read c.tasks.result.now c.args.task c.tasks.ensures.fits c.tasks.ensures.value within in
    omega (arith, read.lock, ap (λ (l : LockId). l.0) c.at.ensures.lock, ap (λ (g : GraphView). g.locks) c.graph.ensures.value, c.state-state.ensures.belongs.locks, ap (λ (s : StateView). length s.owners) c.state-state.ensures.value)

pub kept_from-requires : goal.kept_from-requires
kept_from-requires c =
    let within = subst (λ (g : GraphView). c.args.task < length g.tasks) (sym c.graph.ensures.value) c.requires in
    let read = task_read c.tasks.result.now c.args.task c.tasks.ensures.fits c.tasks.ensures.value within in
    omega (arith, read.lock, ap (λ (l : LockId). l.0) c.at.ensures.lock, ap (λ (g : GraphView). g.locks) c.graph.ensures.value, c.state-state.ensures.belongs.locks, ap (λ (s : StateView). length s.owners) c.state-state.ensures.value)
