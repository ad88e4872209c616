use Rattle.std.proofs.Common.{◌<◌, arith, length, subst, sym}
use Rattle.lock_transforms.proofs.lemmas.Within.{task_read}
use Rattle.build_workers.specs.Site.{SiteView}
use Rattle.build_workers.proofs.site.Site.actions_of.Goals as goal

pub overflow_add-result : goal.overflow_add-result
overflow_add-result g c =
    let within = subst (λ (s : SiteView). c.args.task < length s.graph.tasks) (sym c.self.view_is) c.requires in
    omega (arith, c.at-found.ensures.first, c.at-found.ensures.actions, (task_read c.tasks.result.now c.args.task c.self.invariant.0.fits c.tasks.ensures.value within).fits)
