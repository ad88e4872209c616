use Rattle.std.proofs.Common.{arith, ap, length, subst}
use Rattle.resource_lock.specs.Fits.{Fits}
use Rattle.lock_transforms.proofs.lemmas.Within.{task_fits}
use Rattle.build_workers.specs.Site.{SiteView}
use Rattle.build_workers.proofs.site.Site.action_of.Goals as goal

pub bounds-actions-action : goal.bounds-actions-action
bounds-actions-action g c =
    let graph = ap (λ (s : SiteView). s.graph) c.self.view_is in
    let fits = subst Fits graph c.self.invariant.0.fits in
    let task = task_fits fits c.args.task c.requires.task in
    omega (arith, task.actions, c.requires.action.1, ap length c.actions.ensures.value, ap (λ (s : SiteView). length s.graph.actions) c.self.view_is)

pub returns-clause-within : goal.returns-clause-within
returns-clause-within g c =
    let fits = subst (λ (s : SiteView). Fits s.graph) c.self.view_is c.self.invariant.0.fits in
    let task = task_fits fits c.args.task c.requires.task in
    omega (arith, task.actions, c.requires.action.1)
