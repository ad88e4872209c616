use Rattle.std.proofs.Common.{◌<◌, arith}
use Rattle.resource_lock.specs.GraphView.{GraphView}
use Rattle.resource_lock.specs.Shape.{BelongsTo}
use Rattle.ready_work.specs.Choices.{IsOpenUnit, IsQueued}
use Rattle.ready_work.proofs.Looking.{kept_put, looks_put}
use Rattle.ready_work.proofs.ready_works.ReadyWork.note_unit.Goals as goal

within : (c : goal.After-put_where_kept) (g : GraphView) → BelongsTo g c.args.state.now → c.args.unit < g.units
within c g belongs = let lt = c.requires.within in let same = belongs.units in omega arith

pub returns-clause-open_units : goal.returns-clause-open_units
returns-clause-open_units c = λ g belongs.
    looks_put (IsOpenUnit g c.args.state.now) c.args.unit c.is_open.result c.args.self.now.open_units c.put.new.self c.put.ensures.room c.put.ensures.put c.put.ensures.others
    (λ b. record { within = within c g belongs; unended = c.is_open.ensures.0 b }, λ o. c.is_open.ensures.1 o.unended)

pub returns-clause-queued : goal.returns-clause-queued
returns-clause-queued c = λ g belongs.
    kept_put (IsQueued g c.args.state.now) c.args.unit c.is_queued.result c.args.self.now.queued c.put_where_kept.new.set c.put_where_kept.ensures
    (λ b. record { within = within c g belongs; queued = c.is_queued.ensures.0 b }, λ q. c.is_queued.ensures.1 q.queued)
