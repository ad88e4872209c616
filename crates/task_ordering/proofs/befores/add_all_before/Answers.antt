use Rattle.std.proofs.Common.{◌≡◌, List, ℕ, Contains, subst, arith}
use Rattle.std.proofs.lemmas.List.{take_all}
use Rattle.ready_work.specs.Rank.{lists_of}
use Rattle.task_ordering.specs.Befores.{AddsPairs, HasBoth}
use Rattle.task_ordering.proofs.Pairs.{firsts_more}
use Rattle.task_ordering.proofs.befores.add_all_before.Goals as goal

pub loop-first-preserved : goal.loop-first-preserved
loop-first-preserved c =
    firsts_more c.args.to_run.now (lists_of c.args.befores.now.items) (lists_of c.loop-first.befores.items) (lists_of c.add_pair.new.befores.items) c.args.firsts.now c.loop-first.first-index c.args.second
    c.loop-first-test.true c.loop-first.invariant c.in_ok-add_pair.ensures

pub returns : goal.returns
returns c =
    subst (λ (firsts : List ℕ). AddsPairs (lists_of c.args.befores.now.items) (lists_of c.loop-first.befores.items) (λ a b. HasBoth c.args.to_run.now a b × Contains firsts a × (b ≡ c.args.second)))
    (take_all c.loop-first.first-index c.args.firsts.now (omega (arith, c.loop-first-test.false))) c.loop-first.invariant
