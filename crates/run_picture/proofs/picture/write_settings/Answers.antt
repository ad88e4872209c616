use Rattle.std.proofs.Common.{ℕ, ap₂}
use Rattle.file_access.proofs.lemmas.Telling.{adds_as}
use Rattle.run_picture.specs.Header.{desc_text}
use Rattle.run_picture.proofs.picture.write_settings.Goals as goal

pub returns : goal.returns
returns g c = adds_as (ap₂ (λ (w m : ℕ). desc_text w m c.args.history.now.parallel c.args.history.now.locks) c.from-workers.ensures c.from-max.ensures) c.write_desc.ensures
