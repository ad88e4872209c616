use Rattle.std.proofs.Common.{ℕ, List, ◌++◌, ap, codes}
use Rattle.file_access.proofs.lemmas.Telling.{adds_as, adds_then}
use Rattle.run_picture.specs.Overview.{fill_path, fill_title}
use Rattle.run_picture.proofs.overview_rows.write_leased.Goals as goal

pub returns : goal.returns
returns g c =
    let w = c.args.worker in
    adds_as (ap (λ (hs : List ℕ). fill_path (codes "m") w c.args.foot hs ++ fill_title w (codes " has a lease") c.args.fill.now.entries c.args.count) c.deref.ensures.value)
    (adds_then c.write_fill_path.ensures c.write_fill_title.ensures)
