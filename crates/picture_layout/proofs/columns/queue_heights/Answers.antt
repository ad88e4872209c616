use Rattle.std.proofs.Common.{ℕ, List, ap, ◌∙◌, arith}
use Rattle.picture_layout.specs.Columns.{column, queue_height}
use Rattle.picture_layout.proofs.Made.{made_more}
use Rattle.picture_layout.proofs.columns.queue_heights.Goals as goal

pub loop-place-preserved : goal.loop-place-preserved
loop-place-preserved c =
    let all = c.args.levels.now in
    made_more (λ (p : ℕ). queue_height c.args.most (column c.args.columns.size all p)) 0 c.loop-place.place c.loop-place.place c.loop-place.heights.items c.push.new.self.items c.queue_height.result (omega arith)
    c.in_ok-push.ensures.items c.loop-place.invariant (c.queue_height.ensures ∙ ap (λ (xs : List _). queue_height c.args.most xs) c.column.ensures.are)
