use Rattle.std.proofs.Common.{true, sym, ◌∙◌, ap, subst, ◌∷◌, []}
use Rattle.resource_lock.specs.StateView.{StateView}
use Rattle.resource_lock.specs.Change.{can}
use Rattle.resource_lock.specs.declared.ids.WorkerId.{WorkerId}
use Rattle.lock_transforms.specs.TentativeView.{TentativeView}
use Rattle.lock_transforms.specs.Making.{Makes}
use Rattle.lock_transforms.proofs.Makings.{makes_one}
use Rattle.lock_transforms.proofs.kinds.making.try_change.Goals as goal

pub returns : goal.returns
returns c = subst (λ (t : TentativeView). Makes c.args.work.now t (c.args.change ∷ []) true) (sym c.change.ensures) (makes_one c.args.work.now c.args.change c.requires.named
    (ap (λ (s : StateView). can s c.args.work.now.worker c.args.change) (sym c.state.ensures.value) ∙ ap (λ (w : WorkerId). can c.state.result.now w c.args.change) (sym c.worker.ensures.value) ∙ sym c.can.ensures ∙ c.if-not-can.false) c.requires.room)
