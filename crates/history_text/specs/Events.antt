-- What happened to the daemons, as a text: a line with the number of events, and a line for each.
use Rattle.std.specs.Prelude.{ℕ, List, ◌++◌, codes, decimal, length}
use Rattle.std.specs.List.{flat_map}
use Rattle.daemon_manager.specs.declared.events.Event.{Event}
use Rattle.daemon_manager.specs.declared.events.Event.TheVariants.{Started, Reserved, Released, Failed, Stopped}

abbrev pub daemon_text : ℕ → List ℕ
daemon_text d = codes "daemon " ++ decimal d

-- the line of an event; of the requirements it has the heap, in megabytes
abbrev pub event_text : Event → List ℕ
event_text (Started d requirements) = daemon_text d ++ codes " started heap " ++ decimal requirements.heap_mb ++ codes "\n"
event_text (Reserved d unit) = daemon_text d ++ codes " reserved " ++ decimal unit ++ codes "\n"
event_text (Released d) = daemon_text d ++ codes " released\n"
event_text (Failed d) = daemon_text d ++ codes " failed\n"
event_text (Stopped d) = daemon_text d ++ codes " stopped\n"

abbrev pub events_text : List Event → List ℕ
events_text events = codes "daemons " ++ decimal (length events) ++ codes "\n" ++ flat_map event_text events
