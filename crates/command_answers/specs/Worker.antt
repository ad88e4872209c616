-- What the command `worker` answers.
use Rattle.std.specs.Prelude.{◌≡◌}
use Rattle.daemon_desk.specs.Serving.{Outside, HasServed}
use Rattle.daemon_desk.specs.declared.served_stream.Served.{Served}
use Rattle.daemon_desk.specs.declared.served_stream.Served.TheVariants as ends
use Rattle.command_answers.specs.declared.status.Status.{Status}
use Rattle.command_answers.specs.declared.status.Status.TheVariants.{Passed, BadFrame, SourceFault, SinkFault, NoMemory}

-- the status that stands for how serving ended
abbrev pub status_of : Served → Status
status_of ends.Done = Passed
status_of (ends.BadFrame place) = BadFrame place
status_of ends.SourceFault = SourceFault
status_of ends.SinkFault = SinkFault
status_of ends.NoMemory = NoMemory

-- requests were answered, and the status says how serving ended
abbrev pub HasWorked : Outside → Outside → Status → Type 0
HasWorked old new status = (end : Served) × HasServed old new end × (status ≡ status_of end)
