-- The part of a worker after changes of its own.
use Rattle.std.proofs.Common.{◌≡◌, ◌<◌, true, List, [], ◌∷◌, ◌++◌, length, refl, sym, ap, ◌∙◌, subst, arith}
use Rattle.std.specs.Prelude.{vec_capacity}
use Rattle.std.proofs.lemmas.Bool.{and_parts}
use Rattle.std.proofs.lemmas.List.{length_push}
use Rattle.lock_journal.specs.Names.{can, can_all, holding_after, make, make_all, Good, Holding, StateView, holding_of, runs_by, Change, Lock, Unlock}
use Rattle.lock_journal.specs.Names.{Take, Give, Move, Unpark, Enter, Leave, LockId, WorkerId, Mark, MarkId, owned, claimed, claimed_after}
use Rattle.lock_journal.specs.Names.{locks_after, lock_before, mark_before, with_if, with_member, without_if}
use Rattle.resource_lock.specs.declared.changes.Change.TheVariants.{Park}
use Rattle.resource_lock.proofs.lemmas.Kept.{kept}
use Rattle.resource_lock.proofs.lemmas.Runs.{all_named_along, make_all-append, same_shape-make, worker_along}
use Rattle.lock_journal.proofs.lemmas.OwnChanges.{own_claimed, own_holding, own_locks}
use Rattle.worker_notes.specs.Parts.{HasRoom, HasRoomFor, IsAfter, LeadsOn}
use Rattle.worker_notes.specs.declared.parts.WorkerPart.{WorkerPart}
use Rattle.worker_notes.proofs.lemmas.OnTheWay.{length_with}

module _ (s : StateView) (w : WorkerId) (part : WorkerPart) (c : Change) (cs : List Change) (l : LeadsOn s w part (c ∷ cs)) where
  possible : (can s w c ≡ true) × (can_all (make s w c) w cs ≡ true)
  possible = and_parts (can s w c) (can_all (make s w c) w cs) l.possible

  good_then : Good (make s w c)
  good_then = kept s w c l.worker l.named.0 l.good possible.0

  -- one change further
  pub leads_next : (new : WorkerPart) → IsAfter w c part new → LeadsOn (make s w c) w new cs
  leads_next new a =
      let shape = same_shape-make s w c in record {
        good = good_then;
        worker = worker_along s (make s w c) w shape l.worker;
        named = all_named_along s (make s w c) cs shape l.named.1;
        possible = possible.1;
        has = record {
          holding = a.holding ∙ (ap (λ (h : Holding). holding_after h c) l.has.holding ∙ sym (own_holding s w c l.worker));
          locks = a.locks ∙ (ap (λ (ls : List LockId). locks_after ls c) l.has.locks ∙ sym (own_locks s w c l.named.0 possible.0));
          claimed = a.claimed ∙ (ap (λ (ms : List MarkId). claimed_after w ms c) l.has.claimed ∙ sym (own_claimed s w c l.named.0 possible.0));
        };
        few = λ front behind is. l.few (c ∷ front) behind (ap (λ (ds : List Change). c ∷ ds) is);
        mark_room = omega (arith, a.mark_room, l.mark_room);
        lists = λ front behind is.
            let fits = l.lists (c ∷ front) behind (ap (λ (ds : List Change). c ∷ ds) is) in
            (omega (arith, fits.0, a.lock_room), omega (arith, fits.1, a.park_room));
      }

-- there is room for it
room_to_move : (s : StateView) (w : WorkerId) (part : WorkerPart) (m : MarkId) (from to : Mark) (cs : List Change) → LeadsOn s w part (Move m from to ∷ cs) → runs_by w to ≡ true
    → length (without_if mark_before (runs_by w from) m part.claimed.items) < vec_capacity part.claimed
room_to_move s w part m from to cs l is =
    let c : Change = Move m from to in
    let less : List MarkId = without_if mark_before (runs_by w from) m (claimed s w) in
    let after : claimed (make s w c) w ≡ with_member mark_before m less = own_claimed s w c l.named.0 (possible s w part c cs l).0 ∙ ap (λ b. with_if mark_before b m less) is in
    omega (
      arith,
      ap (λ (ms : List MarkId). length ms) after,
      length_with mark_before m less,
      l.few (c ∷ []) cs refl,
      l.mark_room,
      ap (λ (ms : List MarkId). length (without_if mark_before (runs_by w from) m ms)) l.has.claimed,
    )

pub room_for : (s : StateView) (w : WorkerId) (part : WorkerPart) (c : Change) (cs : List Change) → LeadsOn s w part (c ∷ cs) → HasRoomFor w part c
room_for s w part (Lock k) cs l =
    let c : Change = Lock k in
    omega (
      arith,
      ap (λ (ls : List LockId). length ls) (own_locks s w c l.named.0 (possible s w part c cs l).0),
      length_with lock_before k (owned s w),
      (l.lists (c ∷ []) cs refl).0,
      ap (λ (ls : List LockId). length ls) l.has.locks,
      part.locks.ok.0,
    )
room_for s w part (Park k) cs l =
    let c : Change = Park k in
    omega (
      arith,
      ap (λ (h : Holding). length h.parked) (own_holding s w c l.worker),
      length_push (holding_of s w).parked k,
      (l.lists (c ∷ []) cs refl).1,
      ap (λ (h : Holding). length h.parked) l.has.holding,
      part.parked.ok.0,
    )
room_for s w part (Move m from to) cs l = room_to_move s w part m from to cs l
room_for s w part (Unlock k) cs l = tt
room_for s w part Take cs l = tt
room_for s w part Give cs l = tt
room_for s w part (Unpark k) cs l = tt
room_for s w part Enter cs l = tt
room_for s w part Leave cs l = tt

-- along a list of changes
pub leads_along : (s : StateView) (w : WorkerId) (part new : WorkerPart) (front : List Change) (c : Change) (cs : List Change) → LeadsOn (make_all s w front) w part (c ∷ cs) → IsAfter w c part new
    → LeadsOn (make_all s w (front ++ c ∷ [])) w new cs
leads_along s w part new front c cs l a =
    subst (λ (t : StateView). LeadsOn t w new cs) (sym (make_all-append s w front (c ∷ []))) (leads_next (make_all s w front) w part c cs l new a)

-- behind the last change its lists have room again for all its locks
pub room_behind : (s : StateView) (w : WorkerId) (part : WorkerPart) → LeadsOn s w part [] → HasRoom part
room_behind s w part l =
    let fits = l.lists [] [] refl in
    let owned_here = ap (λ (ls : List LockId). length ls) l.has.locks in
    let parked_here = ap (λ (h : Holding). length h.parked) l.has.holding in record {
      mark_room = l.mark_room;
      locks = record {
        lock_room = omega (arith, fits.0, owned_here, parked_here, part.locks.ok.0, part.parked.ok.0);
        park_room = omega (arith, fits.1, owned_here, parked_here, part.locks.ok.0, part.parked.ok.0);
      };
    }
