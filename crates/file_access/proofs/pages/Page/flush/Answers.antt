use Rattle.std.proofs.Common.{ap, ◌∙◌}
use Rattle.file_access.specs.declared.pages.Page.TheInside.{Inside}
use Rattle.file_access.proofs.lemmas.Telling.{adds_sent_as, adds_failed_as}
use Rattle.file_access.proofs.pages.Page.flush.Goals as goal
use Rattle.file_access.proofs.pages.Page.flush.Goals.{then-not-self, else-not-self}

pub returns-clause-adds : goal.returns-clause-adds
returns-clause-adds g c = elim c.if-not-self.branch [
  | then-not-self w ↦ adds_sent_as _ _ _ _ _ _ _ _ c.self.view_is w.if-not-self.true w.put_all.ensures (ap g.K.Sink.seen w.sink-is) (ap (λ (i : Inside). i.failed) w.self-inside-is ∙ w.is_err-self-inside.ensures.value)
  | else-not-self w ↦ adds_failed_as _ _ _ _ _ _ _ _ c.self.view_is w.if-not-self.false (ap g.K.Sink.seen w.sink-is) (ap (λ (i : Inside). i.failed) w.self-inside-is)
]
