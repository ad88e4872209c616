use Rattle.std.proofs.Common.{◌∙◌, ◌++◌, ap, append_assoc, codes, decimal, length, refl, sym, take}
use Rattle.std.specs.List.{flat_map}
use Rattle.std.proofs.lemmas.Option.{slice_get_read}
use Rattle.file_access.proofs.lemmas.Telling.{adds_as, adds_then}
use Rattle.history_text.specs.Events.{event_text}
use Rattle.history_text.proofs.Parts.{flat_map-next}
use Rattle.history_text.proofs.events.write_events.Goals as goal

pub loop-event-preserved : goal.loop-event-preserved
loop-event-preserved g c =
    let i = c.loop-event.event-index in
    let events = c.args.events.now in
    let event = c.event-item.result in
    let here = slice_get_read events (length events) i event refl c.loop-event-test.true c.event-item.is in
    let head = codes "daemons " ++ decimal (length events) ++ codes "\n" in
    adds_as (append_assoc head (flat_map event_text (take i events)) (event_text event) ∙ ap (λ l. head ++ l) (sym (flat_map-next event_text events i event here))) (adds_then c.loop-event.invariant c.write_event.ensures)
