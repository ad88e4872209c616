use Rattle.std.proofs.Common.{◌≡◌, ◌<◌, ap, arith, sym, subst, ◌∙◌}
use Rattle.std.specs.List.{All}
use Rattle.lock_journal.specs.Names.{IsAtRest, Fits, Good, GraphView, Lawful, BookView, Entry, replay, HasEnded}
use Rattle.coordination.specs.Names.{Agrees, HoldsNothing}
use Rattle.build_runner.specs.declared.prepared.OpenedRun.{OpenedRun}
use Rattle.plan_reader.specs.Graph.{graph_of}
use Rattle.plan_reader.specs.IsPlan.{dependencies}
use Rattle.plan_reader.specs.Units.{plan_units}
use Rattle.build_workers.specs.RunDesks.{known_by}
use Rattle.build_workers.specs.Run.{depth}
use Rattle.build_runner.proofs.AtTheEnd.{all_are_honest, all_ended, all_faults, all_requests, all_rest, all_there, closings_in, has_results}
use Rattle.build_runner.proofs.Ranks.{afters_count, in_range, no_cycle, ranks_of, task_count}
use Rattle.build_runner.proofs.runs.close_service.Goals as goal

pub returns-clause-run : goal.returns-clause-run
returns-clause-run g c = λ before after come.
    let plan = c.args.plan.now in
    let options = c.args.options.now in
    let n = options.workers in
    let known = known_by n before in
    let ps = c.args.opened.value.passes.items in
    let out = c.into_inner-service.ensures in
    let b = c.finish-book.result.value in
    let units = plan_units plan in
    let are = c.requires.workers in
    let agrees = subst (λ (o : OpenedRun _). All (λ p. Agrees p.sight.worker p.sight.seen c.finish-book.result.value) o.passes.items) out c.finish-book.ensures.agrees in
    let told = c.deref-2.ensures in
    let lawful : Lawful b.graph b.history = subst (λ (k : BookView). Lawful k.graph k.history) told c.state.ensures.lawful in
    let replays : b.state ≡ replay b.graph b.history = subst (λ (k : BookView). k.state ≡ replay k.graph k.history) told c.state.ensures.replays in
    let every = c.every_run_comes_to_its_plan.ensures in
    let graph : b.graph ≡ graph_of plan n options.max_leases options.parallel = c.finish-book.ensures.graph ∙ (ap (λ (o : OpenedRun _). o.service.book.graph) out ∙ c.requires.graph) in
    let fits : Fits b.graph = subst (λ (k : BookView). Fits k.graph) c.deref.ensures c.graph.ensures.fits in
    let entries : All (λ (e : Entry). e.worker.0 < n) b.history = subst (λ (g : GraphView). All (λ (e : Entry). e.worker.0 < g.workers) b.history) graph c.finish-book.ensures.entries in
    let ended = all_ended known units before after ps n b are agrees entries come c.histories_go_on.ensures.ended (omega (arith, c.requires.some)) lawful in
    let is = c.tasks.ensures.plan in
    let numbering = c.ranks_give_a_numbering.ensures (dependencies plan.tasks) (in_range plan is) (no_cycle plan is) in
    record {
      graph = graph;
      replays = replays;
      lawful = lawful;
      good = subst (λ (k : BookView). Good k.state) told c.state.ensures.good;
      always_good = λ front later parts. c.lawful_histories_lead_to_good_states.ensures.good b.graph front (c.histories_go_on.ensures.front b.graph front later (subst (Lawful b.graph) parts lawful));
      rest = subst (λ (o : OpenedRun _). All (λ p. HoldsNothing p.sight) o.passes.items → IsAtRest b.state) out c.finish-book.ensures.rest (all_rest known units before after ps n b are agrees entries come);
      ended = subst HasEnded (sym replays) (every.ended b.graph b.history fits lawful ended);
      order = every.order b.graph b.history fits lawful ended;
      results = has_results plan known b c.honest_workers_give_the_answers.ensures (all_are_honest known units before after ps n b are agrees entries come)
          (λ v given. every.plan b.graph b.history v numbering.0 (depth plan) fits (ranks_of plan b.graph n options.max_leases options.parallel graph numbering.0 numbering.1)
          (λ t lt. let low = numbering.1.below t (omega (arith, lt, task_count plan b.graph n options.max_leases options.parallel graph, afters_count plan)) in omega (arith, low, afters_count plan))
          lawful ended given);
      workers = entries;
      faults = all_faults known units before after ps n b are agrees entries come;
      requests = all_requests known units before after ps n b are agrees entries come;
    }

pub returns-clause-broken_off : goal.returns-clause-broken_off
returns-clause-broken_off g c = λ before after there.
    let options = c.args.options.now in
    let out = c.into_inner-service.ensures in
    let b = c.finish-book.result.value in
    let agrees = subst (λ (o : OpenedRun _). All (λ p. Agrees p.sight.worker p.sight.seen c.finish-book.result.value) o.passes.items) out c.finish-book.ensures.agrees in
    let lawful : Lawful b.graph b.history = subst (λ (k : BookView). Lawful k.graph k.history) c.deref-2.ensures c.state.ensures.lawful in
    let graph : b.graph ≡ graph_of c.args.plan.now options.workers options.max_leases options.parallel =
    c.finish-book.ensures.graph ∙ (ap (λ (o : OpenedRun _). o.service.book.graph) out ∙ c.requires.graph) in
    record {
      history = b.history;
      lawful = subst (λ (g : GraphView). Lawful g b.history) graph lawful;
      requests = all_there (plan_units c.args.plan.now) before after c.args.opened.value.passes.items options.workers b c.requires.workers agrees there;
    }

pub returns-clause-closings : goal.returns-clause-closings
returns-clause-closings g c = λ i p low.
    let out = c.into_inner-service.ensures in
    let agrees = subst (λ (o : OpenedRun _). All (λ p. Agrees p.sight.worker p.sight.seen c.finish-book.result.value) o.passes.items) out c.finish-book.ensures.agrees in
    closings_in c.args.opened.value.passes.items c.args.options.now.workers c.finish-book.result.value c.requires.workers agrees i p low

pub returns-clause-graph : goal.returns-clause-graph
returns-clause-graph g c = c.finish-book.ensures.graph ∙ (ap (λ (o : OpenedRun _). o.service.book.graph) c.into_inner-service.ensures ∙ c.requires.graph)

pub returns-clause-later : goal.returns-clause-later
returns-clause-later g c =
    let b = c.finish-book.result.value in
    let agrees = subst (λ (o : OpenedRun _). All (λ p. Agrees p.sight.worker p.sight.seen b) o.passes.items) c.into_inner-service.ensures c.finish-book.ensures.agrees in
    λ i p low. let a = agrees i p low in record { graph = a.graph; history = (a.between, sym a.history) }
