-- The marks in a state's lists.
use Rattle.resource_lock.specs.StateView.{StateView}
use Rattle.resource_lock.specs.declared.states.mark_lists.MarkLists.{MarkLists}

-- a state with these marks
abbrev pub with_marks : StateView → MarkLists → StateView
with_marks s marks = record s { tasks = marks.tasks.items; actions = marks.actions.items; units = marks.units.items }
