use Rattle.std.proofs.Common.{ℕ, ap, ap₂, ◌∙◌}
use Rattle.file_access.proofs.lemmas.Telling.{adds_as}
use Rattle.run_picture.specs.Header.{title_text}
use Rattle.run_picture.proofs.picture.write_run_title.Goals as goal

pub returns : goal.returns
returns g c =
    let h = c.args.history.now in
    adds_as (ap₂ (λ (w m : ℕ). title_text w m c.entry_count.result) c.from-workers.ensures c.from-max.ensures
    ∙ ap (λ (n : ℕ). title_text h.workers h.max n) c.entry_count.ensures) c.write_title.ensures
