use Rattle.std.proofs.Common.{sym, ◌∙◌}
use Rattle.std.proofs.lemmas.Bool.{eqb-true}
use Rattle.lock_transforms.proofs.Named.{named_are_owned}
use Rattle.lock_transforms.proofs.kinds.freeing.are_owned.Goals as goal

pub returns : goal.returns
returns c = λ own. named_are_owned c.args.work.now.state c.args.work.now.worker c.args.own.now (sym c.if-not-do_rise.ensures) (sym c.owns_all.ensures ∙ own) (eqb-true _ _ (sym c.if-not-are_as_many.ensures))
