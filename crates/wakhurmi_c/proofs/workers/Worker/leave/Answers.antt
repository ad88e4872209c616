use Rattle.std.proofs.Common.{sym, ◌∙◌}
use Rattle.wakhurmi_c.proofs.Causes.{leave_leaves, made_bare}
use Rattle.wakhurmi_c.proofs.workers.Worker.leave.Goals as goal

pub returns-clause-left : goal.returns-clause-left
returns-clause-left c =
    leave_leaves c.args.self.now.pass.sight c.try_once.new.pass.sight c.try_once.result.answer (made_bare c.args.self.now.pass.sight.seen.graph _ _ _ _ c.args.self.now.graph_is)
    (sym c.blocked.ensures ∙ c.if-not-blocked.false) c.try_once.ensures.left
