use Rattle.std.proofs.Common.{◌∙◌}
use Rattle.worker_notes.proofs.KnownChanges.{lead_next, none_past, order_first, past, room_first}
use Rattle.worker_notes.proofs.parts.WorkerPart.note_parked.Goals as goal

pub note-requires : goal.note-requires
note-requires c = record { room = room_first c.requires; order = order_first c.requires }

pub note-requires-2 : goal.note-requires-2
note-requires-2 c =
    let can = lead_next c.note.new.self c.requires c.note.ensures in
    record { room = room_first can; order = order_first can }

pub note-requires-3 : goal.note-requires-3
note-requires-3 c =
    let can = lead_next c.note-2.new.self (lead_next c.note.new.self c.requires c.note.ensures) c.note-2.ensures in
    record { room = room_first can; order = order_first can }

pub note-requires-4 : goal.note-requires-4
note-requires-4 c =
    let can = lead_next c.note-3.new.self (lead_next c.note-2.new.self (lead_next c.note.new.self c.requires c.note.ensures) c.note-2.ensures) c.note-3.ensures in
    record { room = room_first can; order = order_first can }

pub returns-clause-leads : goal.returns-clause-leads
returns-clause-leads c = past c.note.ensures (past c.note-2.ensures (past c.note-3.ensures (past c.note-4.ensures none_past)))

pub returns-clause-last : goal.returns-clause-last
returns-clause-last c = c.note-4.ensures.last ∙ (c.note-3.ensures.last ∙ (c.note-2.ensures.last ∙ c.note.ensures.last))
