use Rattle.std.proofs.Common.{◌≡◌, ap, ap₂, ◌∙◌, append_assoc}
use Rattle.file_access.proofs.lemmas.Telling.{adds_as, adds_then}
use Rattle.std.specs.Prelude.{Bool, [], if◌then◌else◌}
use Rattle.run_picture.specs.WorkerBars.{bar, task_area, task_bar, cap_text, task_label}
use Rattle.run_picture.specs.declared.shapes.Area.{Area}
use Rattle.picture_layout.specs.declared.layout.Rows.{Rows}
use Rattle.run_picture.specs.WorkerBars.{task_text}
use Rattle.run_picture.proofs.worker_bars.write_task.Goals as goal

pub returns : goal.returns
unfolding task_text
returns g c =
    let here : c.bar-area.result ≡ task_area c.args.layout.now c.args.span.now = c.bar-area.ensures.is ∙ ap (λ (r : Rows). bar c.args.layout.now c.args.span.now r.task_y r.task_height) c.rows-rows.ensures in
    adds_as (simp append_assoc) (adds_then (adds_then (adds_as (ap (λ (a : Area). task_bar c.args.span.now c.args.task a) here) c.write_task_bar.ensures) (adds_as (ap₂ (λ (b : Bool) (a : Area). if b then cap_text a else []) c.fails_within.ensures here) c.write_cap_where.ensures)) (adds_as (ap₂ (λ (b : Bool) (a : Area). if b then task_label a c.args.task c.args.span.now.worker.0 else []) (ap (λ (r : Rows). r.large) c.rows-rows.ensures) here) c.write_task_label_where.ensures))
