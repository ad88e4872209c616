-- What the fields of an `Ordering` stand for, and what holds of them.
use Rattle.ready_work.specs.Rank.{InRange, lists_of}
use Rattle.task_ordering.specs.OrderingView.{OrderingView}
use Rattle.task_ordering.specs.declared.orderings.Ordering.TheInside.{Inside}

abbrev pub ordering_view : Inside → OrderingView
ordering_view o = record { befores = lists_of o.befores.items; order = o.order.items }

-- the lists have numbers of tasks alone
abbrev pub HasTasks : Inside → Type 0
HasTasks o = InRange (lists_of o.befores.items)
