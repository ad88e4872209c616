use Rattle.std.proofs.Common.{rules, ◌<◌, List, [], length, Ok, sym, ◌∙◌, subst}
use Rattle.lock_journal.specs.Names.{make_all, GraphView, LockId, Change, Finished}
use Rattle.lock_transforms.specs.declared.transforms.Disposition.TheVariants.{Failed}
use Rattle.worker_notes.specs.Parts.{Follows, LeadsOn, started}
use Rattle.worker_notes.specs.declared.parts.WorkerPart.{WorkerPart}
use Rattle.worker_notes.proofs.Following.{room_behind}
use Rattle.worker_notes.proofs.HandedBack.{part_handed_back, room_handed_back}
use Rattle.worker_notes.proofs.KnownChanges.{can_note, lead_as, part_noted, past_as, room_noted, start_list}
use Rattle.worker_notes.proofs.ItemEntries.{part_claimed, part_closed, part_submitted, room_kept, room_to_claim}
use Rattle.worker_notes.proofs.Rising.{marks_rise}
use Rattle.worker_notes.proofs.lemmas.Entries.{changes_made, finished_as, follows_at, last_kept, leads_from, part_of_all, part_failed}
use Rattle.worker_notes.proofs.parts.WorkerPart.follow.Goals as goal

pub last_changes-requires : goal.last_changes-requires
last_changes-requires c =
    let old = c.requires.0 in
    let kind = c.args.kind in
    let new = c.args.book.now in
    let w = c.args.worker in
    let part : WorkerPart = c.args.self.now in
    last_kept w kind old new part (follows_at w kind old new c.args.ran.now (Ok Finished) part (search rules) c.requires.1)

pub note_all-requires : goal.note_all-requires
note_all-requires c =
    let old = c.requires.0 in
    let kind = c.args.kind in
    let new = c.args.book.now in
    let w = c.args.worker in
    let part : WorkerPart = c.args.self.now in
    let f : Follows w kind old new (Ok Finished) part = follows_at w kind old new c.args.ran.now (Ok Finished) part (search rules) c.requires.1 in
    let n = c.len-self.result in
    let is = c.last_changes.ensures ∙ changes_made w kind old new part f in
    (old.state, subst (LeadsOn old.state w (record part { last = n })) (sym is) (leads_from w kind old new part f n))

pub returns-in_default-clause-part : goal.returns-in_default-clause-part
returns-in_default-clause-part c =
    let old = c.requires.0 in
    let kind = c.args.kind in
    let new = c.args.book.now in
    let w = c.args.worker in
    let part : WorkerPart = c.args.self.now in
    let f : Follows w kind old new (Ok Finished) part = follows_at w kind old new c.args.ran.now (Ok Finished) part (search rules) c.requires.1 in
    let n = c.len-self.result in
    let is = c.last_changes.ensures ∙ changes_made w kind old new part f in
    let leads = subst (λ (cs : List Change). LeadsOn (make_all old.state w cs) w c.note_all.new.self []) is
    (c.note_all.ensures.leads old.state (subst (LeadsOn old.state w (record part { last = n })) (sym is) (leads_from w kind old new part f n))) in
    part_of_all w kind old new part f c.note_all.new.self n leads.has c.note_all.ensures.last c.len-self.ensures.value

pub returns-in_default-clause-room : goal.returns-in_default-clause-room
returns-in_default-clause-room c =
    let old = c.requires.0 in
    let kind = c.args.kind in
    let new = c.args.book.now in
    let w = c.args.worker in
    let part : WorkerPart = c.args.self.now in
    let f : Follows w kind old new (Ok Finished) part = follows_at w kind old new c.args.ran.now (Ok Finished) part (search rules) c.requires.1 in
    let n = c.len-self.result in
    let is = c.last_changes.ensures ∙ changes_made w kind old new part f in
    room_behind _ w c.note_all.new.self (c.note_all.ensures.leads old.state (subst (LeadsOn old.state w (record part { last = n })) (sym is) (leads_from w kind old new part f n)))

pub returns-in-Ok-Failed-clause-part : goal.returns-in-Ok-Failed-clause-part
returns-in-Ok-Failed-clause-part c =
    let old = c.requires.0 in
    let kind = c.args.kind in
    let new = c.args.book.now in
    let f : Follows c.args.worker kind old new (Ok Failed) c.args.self.now = follows_at c.args.worker kind old new c.args.ran.now (Ok Failed) c.args.self.now (search rules) c.requires.1 in
    part_failed c.args.worker kind old new c.args.self.now c.len-self-in-Ok-Failed.result f c.len-self-in-Ok-Failed.ensures.value

pub returns-in-HandBack-clause-part : goal.returns-in-HandBack-clause-part
returns-in-HandBack-clause-part c = part_handed_back (finished_as c.requires.1 (search rules) c.in-HandBack.is) c.len-self.result c.note_hand_back.new.self c.note_hand_back.ensures c.len-self.ensures.value

pub returns-in-HandBack-clause-room : goal.returns-in-HandBack-clause-room
returns-in-HandBack-clause-room c = room_handed_back (finished_as c.requires.1 (search rules) c.in-HandBack.is) c.len-self.result c.note_hand_back.new.self c.note_hand_back.ensures

pub note_claim-requires : goal.note_claim-requires
note_claim-requires c = record {
  rises = marks_rise c.requires.0.state c.args.worker c.args.self.now.claimed.items c.requires.1.kept.has.claimed;
  room = room_to_claim (finished_as c.requires.1 (search rules) c.in-Claim.is);
}

pub returns-in-Claim-clause-part : goal.returns-in-Claim-clause-part
returns-in-Claim-clause-part c = part_claimed (finished_as c.requires.1 (search rules) c.in-Claim.is) c.len-self.result c.note_claim.new.self c.note_claim.ensures c.len-self.ensures.value

pub returns-in-Claim-clause-room : goal.returns-in-Claim-clause-room
returns-in-Claim-clause-room c = room_kept c.args.self.now c.note_claim.new.self c.len-self.result c.requires.1.room c.note_claim.ensures

pub note_close-requires : goal.note_close-requires
note_close-requires c = marks_rise c.requires.0.state c.args.worker c.args.self.now.claimed.items c.requires.1.kept.has.claimed

pub returns-in-Close-clause-part : goal.returns-in-Close-clause-part
returns-in-Close-clause-part c = part_closed (finished_as c.requires.1 (search rules) c.in-Close.is) c.len-self.result c.note_close.new.self c.note_close.ensures c.len-self.ensures.value

pub returns-in-Close-clause-room : goal.returns-in-Close-clause-room
returns-in-Close-clause-room c = room_kept c.args.self.now c.note_close.new.self c.len-self.result c.requires.1.room c.note_close.ensures

pub returns-in-Submit-clause-part : goal.returns-in-Submit-clause-part
returns-in-Submit-clause-part c = part_submitted (finished_as c.requires.1 (search rules) c.in-Submit.is) c.len-self.result c.len-self.ensures.value

pub lock_of-requires : goal.lock_of-requires
lock_of-requires c =
    let f = finished_as c.requires.1 (search rules) c.in-Start.is in
    subst (λ (g : GraphView). c.in-Start.task < length g.tasks) (sym f.graph) f.grew.1.allowed.kind

pub note_start-requires : goal.note_start-requires
note_start-requires c =
    let f = finished_as c.requires.1 (search rules) c.in-Start.is in
    let can = can_note f c.len-self.result f.grew.1.allowed.finished.list in
    let l : LockId = c.lock_of.result in
    lead_as can (started c.args.worker l c.in-Start.task) (start_list c.args.book.now.graph can.state c.args.worker c.in-Start.task l c.lock_of.ensures)

pub returns-in-Start-clause-part : goal.returns-in-Start-clause-part
returns-in-Start-clause-part c =
    let f = finished_as c.requires.1 (search rules) c.in-Start.is in
    let can = can_note f c.len-self.result f.grew.1.allowed.finished.list in
    let l : LockId = c.lock_of.result in
    let led = past_as can (started c.args.worker l c.in-Start.task) (start_list c.args.book.now.graph can.state c.args.worker c.in-Start.task l c.lock_of.ensures) c.note_start.new.self c.note_start.ensures.leads in
    part_noted f c.len-self.result c.note_start.new.self led c.note_start.ensures.last c.len-self.ensures.value

pub returns-in-Start-clause-room : goal.returns-in-Start-clause-room
returns-in-Start-clause-room c =
    let f = finished_as c.requires.1 (search rules) c.in-Start.is in
    let can = can_note f c.len-self.result f.grew.1.allowed.finished.list in
    let l : LockId = c.lock_of.result in
    let led = past_as can (started c.args.worker l c.in-Start.task) (start_list c.args.book.now.graph can.state c.args.worker c.in-Start.task l c.lock_of.ensures) c.note_start.new.self c.note_start.ensures.leads in
    room_noted f c.len-self.result c.note_start.new.self led

pub note_park-requires : goal.note_park-requires
note_park-requires c =
    let f = finished_as c.requires.1 (search rules) c.in-Park.is in
    can_note f c.len-self.result f.grew.1.allowed.finished.list

pub returns-in-Park-clause-part : goal.returns-in-Park-clause-part
returns-in-Park-clause-part c =
    part_noted (finished_as c.requires.1 (search rules) c.in-Park.is) c.len-self.result c.note_park.new.self c.note_park.ensures.leads c.note_park.ensures.last c.len-self.ensures.value

pub returns-in-Park-clause-room : goal.returns-in-Park-clause-room
returns-in-Park-clause-room c = room_noted (finished_as c.requires.1 (search rules) c.in-Park.is) c.len-self.result c.note_park.new.self c.note_park.ensures.leads

pub note_resume-requires : goal.note_resume-requires
note_resume-requires c =
    let f = finished_as c.requires.1 (search rules) c.in-Resume.is in
    can_note f c.len-self.result f.grew.1.allowed.finished.list

pub returns-in-Resume-clause-part : goal.returns-in-Resume-clause-part
returns-in-Resume-clause-part c =
    part_noted (finished_as c.requires.1 (search rules) c.in-Resume.is) c.len-self.result c.note_resume.new.self c.note_resume.ensures.leads c.note_resume.ensures.last c.len-self.ensures.value

pub returns-in-Resume-clause-room : goal.returns-in-Resume-clause-room
returns-in-Resume-clause-room c = room_noted (finished_as c.requires.1 (search rules) c.in-Resume.is) c.len-self.result c.note_resume.new.self c.note_resume.ensures.leads
