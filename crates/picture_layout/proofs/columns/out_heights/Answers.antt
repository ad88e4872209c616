use Rattle.std.proofs.Common.{ℕ, List, ap, ◌∙◌, arith}
use Rattle.picture_layout.specs.Columns.{column, out_height}
use Rattle.picture_layout.proofs.Made.{made_more}
use Rattle.picture_layout.proofs.columns.out_heights.Goals as goal

pub loop-place-preserved : goal.loop-place-preserved
loop-place-preserved c =
    let all = c.args.levels.now in
    made_more (λ (p : ℕ). out_height c.args.top (column c.args.columns.size all p)) 0 c.loop-place.place c.loop-place.place c.loop-place.heights.items c.push.new.self.items c.out_height.result (omega arith)
    c.in_ok-push.ensures.items c.loop-place.invariant (c.out_height.ensures ∙ ap (λ (xs : List _). out_height c.args.top xs) c.column.ensures.are)
