use Rattle.std.proofs.Common.{Some, ap, ◌∙◌}
use Rattle.lease_service.proofs.Names.{lock_found}
use Rattle.lease_service.proofs.project_locks.ProjectLocks.lock_of.Goals as goal

pub returns : goal.returns
returns c = ap Some c.project_lock.ensures ∙ lock_found _ c.self.inside _ _ _ c.self.view_is c.as_str.ensures c.in_ok-number.ensures.index

pub returns-in_err-number : goal.returns-in_err-number
returns-in_err-number c = c.from_residual.ensures ∙ lock_found _ c.self.inside _ _ _ c.self.view_is c.as_str.ensures c.in_err-number.ensures.index
