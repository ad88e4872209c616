use Rattle.std.proofs.Common.{◌<◌, length, subst}
use Rattle.item_actions.proofs.NeedleCounts.{found_all}
use Rattle.item_actions.proofs.needle_state.NeedleState.number.Goals as goal

pub returns : goal.returns
returns c = λ needle bytes h.
    found_all needle bytes c.args.self.now.tail c.args.self.now.found c.counting_goes_on_behind_the_first.ensures.nowhere
    (subst (λ n. length c.args.self.now.tail < length n) h.same c.args.self.now.short) h.counted
