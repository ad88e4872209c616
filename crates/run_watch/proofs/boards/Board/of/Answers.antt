use Rattle.std.proofs.Common.{◌≤◌, arith, length, subst, sym, vec_capacity}
use Rattle.coordination.specs.Passes.{PassView}
use Rattle.run_watch.specs.Looks.{IsBoardOf}
use Rattle.run_watch.proofs.Shown.{begun_board, last_within}
use Rattle.run_watch.proofs.boards.Board.of.Goals as goal

pub invariant_of-result : goal.invariant_of-result
invariant_of-result c =
    let seen = c.args.pass.now.sight.seen in
    let r = c.room.inside in
    let le = last_within c.args.pass.now.sight.worker seen.history in
    let few : c.last.result ≤ length seen.history = omega (arith, c.last.ensures, le) in
    subst (λ (p : PassView). IsBoardOf p.sight.seen r.units c.last.result r.closings.items r.looks.items r.watches.items (vec_capacity r.watches)) (sym c.of.ensures)
    (begun_board seen r.units c.last.result r.closings.items r.looks.items r.watches.items (vec_capacity r.watches) c.room.invariant few)
