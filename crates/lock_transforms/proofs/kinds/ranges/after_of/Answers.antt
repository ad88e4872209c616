use Rattle.std.proofs.Common.{ℕ, ◌<◌, List, length, sym, subst}
use Rattle.std.specs.List.{All}
use Rattle.lock_transforms.proofs.lemmas.Within.{task_read}
use Rattle.lock_transforms.proofs.kinds.ranges.after_of.Goals as goal

pub returns-clause-in_range : goal.returns-clause-in_range
returns-clause-in_range c = subst (λ (after : List ℕ). All (λ k. k < length c.args.graph.now.tasks) after) (sym c.after.ensures)
    (task_read c.tasks.result.now c.args.task c.tasks.ensures.fits c.tasks.ensures.value c.requires).after
