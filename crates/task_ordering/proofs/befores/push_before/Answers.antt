use Rattle.task_ordering.proofs.Pairs.{pushed_pair}
use Rattle.task_ordering.proofs.befores.push_before.Goals as goal

pub returns : goal.returns
returns c = pushed_pair c.args.befores.now.items c.args.second c.args.first c.index_mut.result.now c.push.new.self c.requires c.index_mut.ensures.value c.in_ok-push.ensures.items
