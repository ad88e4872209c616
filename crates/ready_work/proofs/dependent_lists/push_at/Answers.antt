use Rattle.ready_work.proofs.DependentLists.{pushed_at}
use Rattle.ready_work.proofs.dependent_lists.push_at.Goals as goal

pub returns : goal.returns
returns c = pushed_at c.args.dependents.now.items c.args.at c.args.task c.index_mut.result.now c.push.new.self c.requires c.index_mut.ensures.value c.in_ok-push.ensures.items
