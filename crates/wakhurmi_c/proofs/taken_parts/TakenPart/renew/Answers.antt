use Rattle.std.proofs.Common.{sym, ap}
use Rattle.resource_lock.specs.GraphView.{GraphView}
use Rattle.wakhurmi_c.proofs.taken_parts.TakenPart.renew.Goals as goal

pub returns : goal.returns
returns c = record {
  entries = c.clear.ensures.entries;
  workers = sym (ap (λ (g : GraphView). g.workers) c.args.worker.now.graph_is);
  max_leases = sym (ap (λ (g : GraphView). g.max_leases) c.args.worker.now.graph_is);
  locks = sym (ap (λ (g : GraphView). g.locks) c.args.worker.now.graph_is);
}
