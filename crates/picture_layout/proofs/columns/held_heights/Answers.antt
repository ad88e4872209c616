use Rattle.std.proofs.Common.{ℕ, List, ap, ◌∙◌, arith}
use Rattle.picture_layout.specs.Columns.{column, held_height}
use Rattle.picture_layout.proofs.Made.{made_more}
use Rattle.picture_layout.proofs.columns.held_heights.Goals as goal

pub loop-place-preserved : goal.loop-place-preserved
loop-place-preserved c =
    let all = c.args.held.now in
    made_more (λ (p : ℕ). held_height c.args.room (column c.args.columns.size all p)) 0 c.loop-place.place c.loop-place.place c.loop-place.heights.items c.push.new.self.items c.held_height.result (omega arith)
    c.in_ok-push.ensures.items c.loop-place.invariant (c.held_height.ensures ∙ ap (λ (xs : List _). held_height c.args.room xs) c.column.ensures.are)
