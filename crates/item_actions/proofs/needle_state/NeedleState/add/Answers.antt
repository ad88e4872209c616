use Rattle.std.proofs.Common.{◌≤◌, ◌-◌, ◌++◌, length, take, drop, ap, subst, ◌∙◌, arith, append_assoc, take-append-drop, length-append, length-drop, length-take-le}
use Rattle.std.proofs.lemmas.List.{take_all, take_rest}
use Rattle.item_actions.specs.NeedleMatches.{HasNeedles}
use Rattle.item_actions.proofs.NeedleCounts.{from_tail}
use Rattle.item_actions.proofs.needle_state.NeedleState.add.Goals as goal

pub returns-then-overlap-piece : goal.returns-then-overlap-piece
returns-then-overlap-piece c = λ needle bytes fits h.
    let piece = c.args.piece.now in
    let overlap = c.min-overlap.result in
    let edge = c.add_edge.new.self in
    let own = ap length c.bytes.ensures.bytes in
    let kept = ap length c.add_edge.ensures.same in
    let seen = ap length c.bytes-then-overlap-piece.ensures in
    let inside : overlap ≤ length piece = omega (arith, c.if-overlap-piece.true) in
    let long = length-take-le overlap piece inside in
    let front = c.add_edge.ensures.needles needle bytes (omega (arith, fits, long, inside)) h in
    let t = c.add_edge.ensures.tail in
    let few : length edge.tail ≤ overlap = omega (arith, c.min-overlap.ensures, c.bytes.ensures.some, own, kept, edge.short, c.if-overlap-piece.true) in
    let from = overlap - length c.bytes-then-overlap-piece.result.now in
    let joined = from_tail c.args.self.now.tail piece edge.tail overlap t.0 from inside t.1 few (omega (arith, seen)) in
    let more = drop overlap piece in
    let whole = append_assoc bytes (take overlap piece) more ∙ ap (λ l. bytes ++ l) (take-append-drop overlap piece) in
    subst (λ l. HasNeedles c.add_joined.new.self needle l) whole
    (c.add_joined.ensures.needles needle (bytes ++ take overlap piece) more (take_rest piece from ∙ joined)
    (omega (arith, fits, long, inside, length-append bytes (take overlap piece), length-drop overlap piece)) front)

pub returns-else-overlap-piece : goal.returns-else-overlap-piece
returns-else-overlap-piece c = λ needle bytes fits h.
    let piece = c.args.piece.now in
    let all = take_all c.min-overlap.result piece c.if-overlap-piece.false in
    let long = ap length all in
    subst (λ l. HasNeedles c.add_edge.new.self needle (bytes ++ l)) all (c.add_edge.ensures.needles needle bytes (omega (arith, fits, long)) h)
