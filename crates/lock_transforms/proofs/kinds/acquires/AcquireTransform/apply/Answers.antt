use Rattle.std.proofs.Common.{◌<◌, sym, ◌∙◌, ap, arith, inl}
use Rattle.resource_lock.specs.declared.ids.WorkerId.{WorkerId}
use Rattle.lock_transforms.proofs.Makings.{made_is, worked_from}
use Rattle.lock_transforms.proofs.Taken.{all_taken_is, acquire_allowed, acquire_read, few_made}
use Rattle.lock_transforms.proofs.kinds.acquires.AcquireTransform.apply.Goals as goal

pub returns-then-not-may_acquire-clause-retry : goal.returns-then-not-may_acquire-clause-retry
returns-then-not-may_acquire-clause-retry c = λ _. inl (sym (acquire_read c.args.self.now.locks.now c.if-not-may_acquire.ensures c.graph.ensures.value c.state.ensures.value c.worker.ensures.value))

pub returns-then-take_all-clause-few : goal.returns-then-take_all-clause-few
returns-then-take_all-clause-few c = few_made c.args.self.now.locks.now c.requires.fresh c.if-take_all.ensures.taken

pub returns-then-take_all-clause-finished : goal.returns-then-take_all-clause-finished
returns-then-take_all-clause-finished c = λ _.
    let worker : c.args.work.now.worker.0 < c.args.work.now.graph.workers = omega (arith, c.worker.ensures.in_range, ap (λ (w : WorkerId). w.0) c.worker.ensures.value) in
    acquire_allowed c.args.self.now.locks.now c.requires.fresh worker c.args.self.now.rising
    (sym (acquire_read c.args.self.now.locks.now c.if-not-may_acquire.ensures c.graph.ensures.value c.state.ensures.value c.worker.ensures.value)) c.if-take_all.ensures.taken

pub returns-then-take_all-clause-makes : goal.returns-then-take_all-clause-makes
returns-then-take_all-clause-makes c = λ _. made_is c.requires.fresh c.if-take_all.ensures.taken ∙ all_taken_is c.args.work.now.state c.args.work.now.worker c.args.self.now.locks.now c.args.self.now.rising

pub returns-in-Waits-clause-worked : goal.returns-in-Waits-clause-worked
returns-in-Waits-clause-worked c = worked_from c.requires.fresh c.if-take_all.ensures.taken

pub returns-in-Waits-clause-few : goal.returns-in-Waits-clause-few
returns-in-Waits-clause-few c = few_made c.args.self.now.locks.now c.requires.fresh c.if-take_all.ensures.taken

pub returns-in-Fails-clause-worked : goal.returns-in-Fails-clause-worked
returns-in-Fails-clause-worked c = worked_from c.requires.fresh c.if-take_all.ensures.taken

pub returns-in-Fails-clause-few : goal.returns-in-Fails-clause-few
returns-in-Fails-clause-few c = few_made c.args.self.now.locks.now c.requires.fresh c.if-take_all.ensures.taken
