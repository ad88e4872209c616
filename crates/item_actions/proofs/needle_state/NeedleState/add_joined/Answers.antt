use Rattle.std.proofs.Common.{◌-◌, length, drop, ap, arith, length-drop, length-take}
use Rattle.item_actions.proofs.NeedleCounts.{joined_counts}
use Rattle.item_actions.proofs.needle_state.NeedleState.add_joined.Goals as goal

pub of-self-requires : goal.of-self-requires
of-self-requires c =
    let from = c.count_on-found.result.1 in
    let joined = c.args.joined.now in
    omega (arith, c.count_on-found.ensures.few, length-take (length joined - from) (drop from joined), length-drop from joined)

pub returns-clause-needles : goal.returns-clause-needles
returns-clause-needles c = λ needle bytes more is fits h.
    let laws = c.counting_goes_on_behind_the_first.ensures in
    let own = c.args.self.now in
    record {
      same = h.same;
      counted = joined_counts needle (omega (arith, own.short, ap length h.same)) laws.nowhere laws.first bytes own.tail more c.args.joined.now own.needle _ own.found _ _ _
          h.same is fits c.count_on-found.ensures.counted c.saturating_add-self.ensures c.of-self.ensures h.counted;
    }
