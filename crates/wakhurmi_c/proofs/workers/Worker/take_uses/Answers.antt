use Rattle.std.proofs.Common.{ℕ, List, sym, subst, ◌∙◌}
use Rattle.wakhurmi_c.specs.Uses.{TakeUsesLeaves}
use Rattle.wakhurmi_c.proofs.Causes.{made_bare, take_uses_leaves}
use Rattle.wakhurmi_c.proofs.workers.Worker.take_uses.Goals as goal

pub returns-clause-left : goal.returns-clause-left
returns-clause-left c =
    let old = c.args.self.now.pass.sight in
    let new = c.try_once.new.pass.sight in
    subst (λ (maxima : List ℕ). TakeUsesLeaves c.args.shortage maxima c.args.asked.now old new c.try_once.result.answer) c.in-Ok.ensures
    (take_uses_leaves c.args.shortage c.in-Ok.table c.args.asked.now old new c.try_once.result.answer (made_bare old.seen.graph _ _ _ _ c.args.self.now.graph_is)
    (sym c.may_take_uses.ensures ∙ c.if-not-may_take_uses.false) (c.has_the_locks.ensures.0 c.if-not-has_the_locks.false) c.try_once.ensures.left)
