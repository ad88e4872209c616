use Rattle.file_access.proofs.lemmas.Telling.{adds_put_as}
use Rattle.file_access.proofs.pages.Page.through.Goals as goal

pub returns-then-not-self : goal.returns-then-not-self
returns-then-not-self g c = adds_put_as _ _ _ _ _ _ _ _ c.self.view_is c.if-not-self.true c.requires c.put_all.ensures c.is_err-self-inside.ensures.value
