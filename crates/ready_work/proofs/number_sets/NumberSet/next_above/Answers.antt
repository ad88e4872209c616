use Rattle.std.proofs.Common.{◌+◌, subst, arith}
use Rattle.ready_work.specs.Lowest.{IsFrom, IsNone}
use Rattle.ready_work.specs.NumberSetView.{NumberSetView, IsMember}
use Rattle.ready_work.proofs.Sets.{none_unfit}
use Rattle.ready_work.proofs.number_sets.NumberSet.next_above.Goals as goal

pub returns-then-number-eq4294967295-clause-none : goal.returns-then-number-eq4294967295-clause-none
returns-then-number-eq4294967295-clause-none c =
    let last = c.if-number-eq4294967295.true in
    subst (λ (set : NumberSetView). IsNone (IsFrom (c.args.number + 1) (IsMember set))) c.self.view_is
    (none_unfit c.self.inside.members.words.items c.self.inside.filled.words.items (c.args.number + 1) c.self.invariant.members (omega arith))
