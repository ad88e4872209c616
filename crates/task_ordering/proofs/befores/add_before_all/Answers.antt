use Rattle.std.proofs.Common.{◌≡◌, List, ℕ, Contains, subst, arith}
use Rattle.std.proofs.lemmas.List.{take_all}
use Rattle.ready_work.specs.Rank.{lists_of}
use Rattle.task_ordering.specs.Befores.{AddsPairs, HasBoth}
use Rattle.task_ordering.proofs.Pairs.{seconds_more}
use Rattle.task_ordering.proofs.befores.add_before_all.Goals as goal

pub loop-second-preserved : goal.loop-second-preserved
loop-second-preserved c =
    seconds_more c.args.to_run.now (lists_of c.args.befores.now.items) (lists_of c.loop-second.befores.items) (lists_of c.add_pair.new.befores.items) c.args.seconds.now c.loop-second.second-index c.args.first
    c.loop-second-test.true c.loop-second.invariant c.in_ok-add_pair.ensures

pub returns : goal.returns
returns c =
    subst (λ (seconds : List ℕ). AddsPairs (lists_of c.args.befores.now.items) (lists_of c.loop-second.befores.items) (λ a b. HasBoth c.args.to_run.now a b × (a ≡ c.args.first) × Contains seconds b))
    (take_all c.loop-second.second-index c.args.seconds.now (omega (arith, c.loop-second-test.false))) c.loop-second.invariant
