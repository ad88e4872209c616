-- The part of a worker behind entries whose changes are known by their kind: a start, and the beginning and the end of a wait for items.
use Rattle.std.proofs.Common.{◌≡◌, ℕ, ◌++◌, ◌∷◌, [], List, length, Ok, sym, ap, ◌∙◌, subst}
use Rattle.lock_journal.specs.Names.{make, make_all, GraphView, action_of, task_of, lock_with, StateView, Change, Move, Retention}
use Rattle.lock_journal.specs.Names.{ReleaseAndReacquire, LockId, WorkerId, Passed, Queued, Running, ActionOf, IsKindOf, list_of, on_park, on_resume}
use Rattle.lock_journal.specs.Names.{Kind, Park, Resume, Start, Finished, BookView, last_changes}
use Rattle.worker_notes.specs.Parts.{CanLead, CanNote, Follows, Has, HasRoom, HasRoomFor, IsAfter, IsPartOf, LeadsOn, LeadsPast, StandsInOrder, parked_with, resumed_with, started}
use Rattle.worker_notes.specs.declared.parts.WorkerPart.{WorkerPart}
use Rattle.worker_notes.proofs.Following.{leads_next, room_behind, room_for}
use Rattle.worker_notes.proofs.Rising.{locks_rise, marks_rise}
use Rattle.worker_notes.proofs.lemmas.Entries.{changes_made, last_kept, leads_from, part_of_all}

-- for the first of the changes there is room, and what the worker has stands in order
pub room_first : {w : WorkerId} {c : Change} {cs : List Change} {part : WorkerPart} → CanLead w (c ∷ cs) part → HasRoomFor w part c
room_first {w} {c} {cs} {part} h = room_for h.0 w part c cs h.1

pub order_first : {w : WorkerId} {c : Change} {cs : List Change} {part : WorkerPart} → CanLead w (c ∷ cs) part → StandsInOrder part
order_first {w} {c} {cs} {part} h = record { locks = locks_rise h.0 w part.locks.items h.1.has.locks; claimed = marks_rise h.0 w part.claimed.items h.1.has.claimed }

-- one change further
pub lead_next : {w : WorkerId} {c : Change} {cs : List Change} {part : WorkerPart} (new : WorkerPart) → CanLead w (c ∷ cs) part → IsAfter w c part new → CanLead w cs new
lead_next {w} {c} {cs} {part} new h after = (make h.0 w c, leads_next h.0 w part c cs h.1 new after)

pub past : {w : WorkerId} {c : Change} {cs : List Change} {old mid new : WorkerPart} → IsAfter w c old mid → LeadsPast w cs mid new → LeadsPast w (c ∷ cs) old new
past {w} {c} {cs} {old} {mid} {new} after behind s l = behind (make s w c) (leads_next s w old c cs l mid after)

pub none_past : {w : WorkerId} {part : WorkerPart} → LeadsPast w [] part part
none_past s l = l

-- the changes, by those that the kind makes
module _ {w : WorkerId} {kind : Kind} {book : BookView} {part : WorkerPart} (h : CanNote w kind book part) (cs : List Change) (is : list_of book.graph h.state w kind ≡ cs) where
  pub lead_as : CanLead w cs part
  lead_as = (h.can.0, subst (LeadsOn h.can.0 w part) (h.list ∙ is) h.can.1)

  pub past_as : (new : WorkerPart) → LeadsPast w cs part new → LeadsPast w (last_changes book.history) part new
  past_as new led = subst (λ (ds : List Change). LeadsPast w ds part new) (sym (h.list ∙ is)) led

-- they are those of the lock that was read
pub start_list : (g : GraphView) (s : StateView) (w : WorkerId) (t : ℕ) (l : LockId) → l ≡ (task_of g t).lock → list_of g s w (Start t) ≡ started w l t
start_list g s w t l is = ap (λ (k : LockId). started w k t) (sym is)

pub park_list : (g : GraphView) (s : StateView) (w : WorkerId) (a : ℕ) (l : LockId) → (action_of g a).retention ≡ ReleaseAndReacquire → l ≡ lock_with g a → list_of g s w (Park a) ≡ parked_with w l a
park_list g s w a l again is = ap (λ (r : Retention). on_park r (lock_with g a) ++ Move (ActionOf a) Queued (Running w) ∷ []) again ∙ ap (λ (k : LockId). parked_with w k a) (sym is)

pub resume_list : (g : GraphView) (s : StateView) (w : WorkerId) (a : ℕ) (l : LockId) → (action_of g a).retention ≡ ReleaseAndReacquire → l ≡ lock_with g a → list_of g s w (Resume a) ≡ resumed_with w l a
resume_list g s w a l again is = ap (λ (r : Retention). on_resume r (lock_with g a) ++ Move (ActionOf a) (Running w) Passed ∷ []) again ∙ ap (λ (k : LockId). resumed_with w k a) (sym is)

-- what follows an entry whose changes its kind fixes
module _ {E : Type 0} {w : WorkerId} {kind : Kind} {old new : BookView} {part : WorkerPart} (f : Follows {E = E} w kind old new (Ok Finished) part) (n : ℕ) where
  leads_here : LeadsOn old.state w (record part { last = n }) (last_changes new.history)
  leads_here = subst (LeadsOn old.state w (record part { last = n })) (sym (changes_made w kind old new part f)) (leads_from w kind old new part f n)

  pub can_note : f.grew.0 ≡ list_of old.graph old.state w kind → CanNote w kind new (record part { last = n })
  can_note made = record {
    kept = last_kept w kind old new part f;
    range = subst (λ (g : GraphView). IsKindOf g kind) (sym f.graph) f.grew.1.allowed.kind;
    state = old.state;
    list = changes_made w kind old new part f ∙ (made ∙ ap (λ (g : GraphView). list_of g old.state w kind) (sym f.graph));
    can = (old.state, leads_here);
  }

  module _ (after : WorkerPart) (led : LeadsPast w (last_changes new.history) (record part { last = n }) after) where
    pub part_noted : after.last ≡ n → n ≡ length new.history → IsPartOf new w after
    part_noted last long =
        let has : Has (make_all old.state w (last_changes new.history)) w after = (led old.state leads_here).has in
        part_of_all w kind old new part f after n (subst (λ (cs : List Change). Has (make_all old.state w cs) w after) (changes_made w kind old new part f) has) last long

    pub room_noted : HasRoom after
    room_noted = room_behind _ w after (led old.state leads_here)
