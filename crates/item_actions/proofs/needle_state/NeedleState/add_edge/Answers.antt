use Rattle.std.proofs.Common.{◌++◌, drop, ap, ◌∙◌}
use Rattle.item_actions.proofs.needle_state.NeedleState.add_edge.Goals as goal

pub returns-clause-needles : goal.returns-clause-needles
returns-clause-needles c = λ needle bytes fits h.
    c.add_joined.ensures.needles needle bytes c.args.front.now (c.bytes-2.ensures ∙ c.push.ensures ∙ ap (λ l. l ++ c.args.front.now) (c.of-edge.ensures ∙ c.bytes.ensures)) fits h

pub returns-clause-tail : goal.returns-clause-tail
returns-clause-tail c =
    let t = c.add_joined.ensures.tail in
    (t.0, t.1 ∙ ap (drop t.0) (c.bytes-2.ensures ∙ c.push.ensures ∙ ap (λ l. l ++ c.args.front.now) (c.of-edge.ensures ∙ c.bytes.ensures)))
