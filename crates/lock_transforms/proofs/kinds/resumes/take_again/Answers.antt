use Rattle.std.proofs.Common.{sym, subst}
use Rattle.resource_lock.specs.declared.graphs.Retention.{Retention}
use Rattle.lock_transforms.specs.Making.{Makes}
use Rattle.lock_transforms.specs.Table.{on_resume}
use Rattle.lock_transforms.proofs.Makings.{makes_then}
use Rattle.lock_transforms.proofs.kinds.resumes.take_again.Goals as goal

pub returns-then-unpark_lock-clause-made : goal.returns-then-unpark_lock-clause-made
returns-then-unpark_lock-clause-made c =
    subst (λ (r : Retention). Makes c.args.work.now c.try_change-then-unpark_lock.new.work (on_resume r c.args.lock) c.try_change-then-unpark_lock.result) (sym c.in-ReleaseAndReacquire.is)
    (makes_then c.if-unpark_lock.ensures c.try_change-then-unpark_lock.ensures)
