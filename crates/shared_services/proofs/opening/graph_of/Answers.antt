use Rattle.std.proofs.Common.{List, [], None, sym, subst, arith}
use Rattle.lock_journal.specs.Names.{Fits, GraphTaskView, made_of, GraphAction}
use Rattle.shared_services.proofs.lemmas.Places.{few_locks}
use Rattle.shared_services.proofs.NoTasks.{no_tasks_fit}
use Rattle.shared_services.proofs.opening.graph_of.Goals as goal

pub new-requires-2 : goal.new-requires-2
new-requires-2 c =
    let few = few_locks c.args.table.now c.locks-locks.ensures.fit in
    let fits = no_tasks_fit c.locks-locks.result c.args.workers c.args.max_leases (omega (arith, few, c.locks-locks.ensures.count)) c.requires.some_worker (omega (arith, c.requires.few_workers)) c.requires.some_lease (omega (arith, c.requires.few_leases)) in
    subst (λ (tasks : List GraphTaskView). Fits (made_of c.locks-locks.result None c.args.workers c.args.max_leases tasks c.new.result.items)) (sym c.none.ensures)
    (subst (λ (actions : List GraphAction). Fits (made_of c.locks-locks.result None c.args.workers c.args.max_leases [] actions)) (sym c.new.ensures.items) fits)
