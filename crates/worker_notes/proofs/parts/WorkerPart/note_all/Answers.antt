use Rattle.std.proofs.Common.{List, [], sym, ◌∙◌, subst}
use Rattle.lock_journal.specs.Names.{make_all, Change, changes_left}
use Rattle.lock_journal.proofs.NextChanges.{all_given, next_change, no_change, one_more}
use Rattle.worker_notes.specs.Parts.{LeadsOn}
use Rattle.worker_notes.proofs.Following.{leads_along, room_for}
use Rattle.worker_notes.proofs.Rising.{locks_rise, marks_rise}
use Rattle.worker_notes.proofs.parts.WorkerPart.note_all.Goals as goal

pub note-requires : goal.note-requires
note-requires c =
    let s = c.requires.0 in
    let w = c.args.worker in
    let part = c.loop-change.self in
    let t = make_all s w c.loop-change.yielded in
    let first = next_change c.loop-change.change-iterator c.next.new.self c.next.result c.in-Some.change c.in-Some.is c.next.ensures.steps in
    let leads = subst (LeadsOn t w part) first (c.loop-change.invariant.0 s c.requires.1) in record {
      room = room_for t w part c.in-Some.change (changes_left c.next.new.self) leads;
      order = record { locks = locks_rise t w part.locks.items leads.has.locks; claimed = marks_rise t w part.claimed.items leads.has.claimed };
    }

pub loop-change-preserved : goal.loop-change-preserved
loop-change-preserved c =
    let w = c.args.worker in
    let part = c.loop-change.self in
    let front = c.loop-change.yielded in
    let first = next_change c.loop-change.change-iterator c.next.new.self c.next.result c.in-Some.change c.in-Some.is c.next.ensures.steps in (
      (λ s l. leads_along s w part c.note.new.self front c.in-Some.change (changes_left c.next.new.self) (subst (LeadsOn (make_all s w front) w part) first (c.loop-change.invariant.0 s l)) c.note.ensures),
      one_more (changes_left c.args.changes) front c.loop-change.change-iterator c.next.new.self c.next.result c.in-Some.change c.loop-change.invariant.1 c.in-Some.is c.next.ensures.steps,
      c.note.ensures.last ∙ c.loop-change.invariant.2,
    )

pub returns-clause-leads : goal.returns-clause-leads
returns-clause-leads c = λ s l.
    let w = c.args.worker in
    let part = c.loop-change.self in
    let front = c.loop-change.yielded in
    let none = no_change c.loop-change.change-iterator c.next.new.self c.next.result c.in-None.is c.next.ensures.steps in
    let all = all_given (changes_left c.args.changes) front c.loop-change.change-iterator c.next.new.self c.next.result c.loop-change.invariant.1 c.in-None.is c.next.ensures.steps in
    subst (λ (cs : List Change). LeadsOn (make_all s w cs) w part []) (sym all) (subst (LeadsOn (make_all s w front) w part) none (c.loop-change.invariant.0 s l))
