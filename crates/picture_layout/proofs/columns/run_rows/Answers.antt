use Rattle.std.proofs.Common.{[], ◌∷◌, length, length-append, map, ap, ◌∙◌, arith}
use Rattle.std.proofs.lemmas.List.{map-append}
use Rattle.picture_layout.specs.Columns.{row_view, run_row}
use Rattle.picture_layout.proofs.Made.{made_more}
use Rattle.picture_layout.proofs.columns.run_rows.Goals as goal

pub loop-worker-preserved : goal.loop-worker-preserved
loop-worker-preserved c =
    let rows = c.loop-worker.rows.items in
    let row = c.in_ok-row.row in
    let long = ap length c.in_ok-push.ensures.items ∙ length-append rows (row ∷ []) in (
      made_more (run_row c.args.layout.columns c.args.layout.room c.args.spans.now c.args.count) 0 c.loop-worker.worker c.loop-worker.worker (map row_view rows) (map row_view c.push.new.self.items)
          (row_view row) (omega arith) (ap (map row_view) c.in_ok-push.ensures.items ∙ map-append row_view rows (row ∷ [])) c.loop-worker.invariant.0 c.in_ok-row.ensures,
      omega (arith, long, c.loop-worker.invariant.1),
    )
