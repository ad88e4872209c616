use Rattle.std.proofs.Common.{List, sym, subst}
use Rattle.resource_lock.specs.declared.changes.Change.{Change}
use Rattle.worker_notes.specs.Parts.{LeadsOn, LeadsPast, parked_with}
use Rattle.worker_notes.proofs.KnownChanges.{lead_as, park_list, past_as}
use Rattle.worker_notes.proofs.parts.WorkerPart.note_park.Goals as goal

pub lock_given_back-requires : goal.lock_given_back-requires
lock_given_back-requires c = c.requires.range

pub note_parked-requires : goal.note_parked-requires
note_parked-requires c =
    lead_as c.requires (parked_with c.args.worker c.in-Some.lock c.args.action)
    (park_list c.args.book.now.graph c.requires.state c.args.worker c.args.action c.in-Some.lock c.in-Some.ensures.again c.in-Some.ensures.lock)

pub returns-in-Some-clause-leads : goal.returns-in-Some-clause-leads
returns-in-Some-clause-leads c =
    past_as c.requires (parked_with c.args.worker c.in-Some.lock c.args.action)
    (park_list c.args.book.now.graph c.requires.state c.args.worker c.args.action c.in-Some.lock c.in-Some.ensures.again c.in-Some.ensures.lock) c.note_parked.new.self c.note_parked.ensures.leads

-- one after another where the lock is kept, or isn't taken again
pub last_changes-requires : goal.last_changes-requires
last_changes-requires c = c.requires.kept

pub note_all-requires : goal.note_all-requires
note_all-requires c = (c.requires.can.0, subst (LeadsOn c.requires.can.0 c.args.worker c.args.self.now) (sym c.last_changes.ensures) c.requires.can.1)

pub returns-in-None-clause-leads : goal.returns-in-None-clause-leads
returns-in-None-clause-leads c = subst (λ (cs : List Change). LeadsPast c.args.worker cs c.args.self.now c.note_all.new.self) c.last_changes.ensures c.note_all.ensures.leads
