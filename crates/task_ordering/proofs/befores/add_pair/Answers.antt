use Rattle.std.proofs.lemmas.Result.{on_ok_weaker}
use Rattle.ready_work.specs.Rank.{lists_of}
use Rattle.task_ordering.proofs.Pairs.{both_run}
use Rattle.task_ordering.proofs.befores.add_pair.Goals as goal

pub returns : goal.returns
returns c =
    let both = c.are_both.ensures.0 c.if-not-are_both.false in
    on_ok_weaker c.push_before.result (both_run c.args.to_run.now (lists_of c.args.befores.now.items) (lists_of c.push_before.new.befores.items) c.args.first c.args.second both.first both.second) c.push_before.ensures
