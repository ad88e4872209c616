use Rattle.std.proofs.Common.{ap, decimal, sym}
use Rattle.file_access.proofs.lemmas.Telling.{adds_as, adds_then}
use Rattle.history_text.specs.Events.{event_text}
use Rattle.history_text.proofs.events.write_event.Goals as goal

pub returns-in-Released : goal.returns-in-Released
returns-in-Released g c = adds_as (ap event_text (sym c.in-Released.is)) c.write_between-in-Released.ensures

pub returns-in-Failed : goal.returns-in-Failed
returns-in-Failed g c = adds_as (ap event_text (sym c.in-Failed.is)) c.write_between-in-Failed.ensures

pub returns-in-Stopped : goal.returns-in-Stopped
returns-in-Stopped g c = adds_as (ap event_text (sym c.in-Stopped.is)) c.write_between-in-Stopped.ensures

pub returns-in-Reserved : goal.returns-in-Reserved
returns-in-Reserved g c = adds_as (ap event_text (sym c.in-Reserved.is)) (adds_then (adds_then c.write_between-in-Reserved.ensures (adds_as (ap decimal c.from-in-Reserved.ensures) c.number-in-Reserved.ensures)) c.text-in-Reserved.ensures)
