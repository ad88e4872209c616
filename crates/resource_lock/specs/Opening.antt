-- The state that a run begins in.
use Rattle.std.specs.Prelude.{length, None, replicate}
use Rattle.resource_lock.specs.StateView.{StateView, empty_holding}
use Rattle.resource_lock.specs.GraphView.{GraphView}
use Rattle.resource_lock.specs.declared.marks.Mark.TheVariants.{Waiting}

-- no owner, no lease, no parked lock, no blocked worker, and every mark Waiting
abbrev pub opening_of : GraphView → StateView
opening_of g = record {
  max_leases = g.max_leases;
  all = g.all;
  owners = replicate g.locks None;
  holdings = replicate g.workers empty_holding;
  tasks = replicate (length g.tasks) Waiting;
  actions = replicate (length g.actions) Waiting;
  units = replicate g.units Waiting;
}
