use Rattle.std.proofs.Common.{sym, ◌∙◌}
use Rattle.wakhurmi_c.proofs.Causes.{hand_back_leaves, made_bare}
use Rattle.wakhurmi_c.proofs.workers.Worker.hand_back.Goals as goal

pub returns-clause-left : goal.returns-clause-left
returns-clause-left c =
    hand_back_leaves c.args.self.now.pass.sight c.try_once.new.pass.sight c.try_once.result.answer (made_bare c.args.self.now.pass.sight.seen.graph _ _ _ _ c.args.self.now.graph_is)
    (sym c.may_hand_back.ensures ∙ c.if-not-may_hand_back.false) c.try_once.ensures.left
