-- The part of a worker behind entries that queue items, claim one, and end one.
use Rattle.std.proofs.Common.{◌≡◌, ◌<◌, ◌==◌, ℕ, Bool, true, false, cond, List, [], ◌∷◌, length, Ok, refl, sym, ap, ◌∙◌, subst, arith}
use Rattle.std.specs.Prelude.{vec_capacity, vec_len}
use Rattle.std.proofs.lemmas.Bool.{eq-eqb}
use Rattle.lock_journal.specs.Names.{holding_after, make, items_of, Change, Give, Move, Take, WorkerId, Queued, Running, Waiting, MarkId, ActionOf}
use Rattle.lock_journal.specs.Names.{UnitOf, mark_from, moved_units, Closed, Claim, Close, Submit, Finished, BookView, after_all, claimed_after}
use Rattle.lock_journal.specs.Names.{locks_after, mark_before, with_if, with_member, without_member}
use Rattle.worker_notes.specs.Parts.{Follows, HasMarks, HasRoom, IsPartOf, LeadsOn, holding_in}
use Rattle.worker_notes.specs.declared.parts.WorkerPart.{WorkerPart}
use Rattle.worker_notes.proofs.Following.{leads_next, room_for}
use Rattle.worker_notes.proofs.lemmas.Entries.{leads_from, part_by_changes}
use Rattle.worker_notes.proofs.lemmas.OnTheWay.{ended_by_nobody}

module _ {E : Type 0} {w : WorkerId} {old new : BookView} {part : WorkerPart} {u : ℕ} (f : Follows {E = E} w (Claim u) old new (Ok Finished) part) where
  -- the claimed unit is one mark more
  pub room_to_claim : vec_len part.claimed < vec_capacity part.claimed
  room_to_claim =
      let move : Change = Move (UnitOf u) Queued (Running w) in
      let here : WorkerPart = record part { last = 0 } in
      let leads = subst (LeadsOn old.state w here) f.grew.1.allowed.finished.list (leads_from w (Claim u) old new part f 0) in
      let leased : WorkerPart = record here { lease = true } in
      let then = leads_next old.state w here Take (move ∷ []) leads leased (record { last = refl; holding = refl; locks = refl; claimed = refl; lock_room = refl; mark_room = refl; park_room = refl }) in
      omega (arith, room_for (make old.state w Take) w leased move [] then (eq-eqb w.0 w.0 refl), part.claimed.ok.0)

  pub part_claimed : (n : ℕ) (after : WorkerPart) → HasMarks true (with_member mark_before (UnitOf u) part.claimed.items) (record part { last = n }) after → n ≡ length new.history → IsPartOf new w after
  part_claimed n after h last =
      part_by_changes f (Take ∷ Move (UnitOf u) Queued (Running w) ∷ []) f.grew.1.allowed.finished.list after (sym h.holding) (ap (λ v. v.items) (sym h.locks))
      (ap (λ b. with_if mark_before b (UnitOf u) part.claimed.items) (eq-eqb w.0 w.0 refl) ∙ sym h.claimed) (h.last ∙ last)

pub part_closed : {E : Type 0} {w : WorkerId} {old new : BookView} {part : WorkerPart} {d : Closed} (f : Follows {E = E} w (Close d) old new (Ok Finished) part) (n : ℕ) (after : WorkerPart)
    → HasMarks false (without_member mark_before (UnitOf d.unit) part.claimed.items) (record part { last = n }) after → n ≡ length new.history → IsPartOf new w after
part_closed {E} {w} {old} {new} {part} {d} f n after h last =
    let marks : List MarkId = part.claimed.items in
    let less : List MarkId = without_member mark_before (UnitOf d.unit) marks in
    part_by_changes f (Move (UnitOf d.unit) (Running w) (mark_from d.outcome) ∷ Give ∷ []) f.grew.1.allowed.finished.list after (sym h.holding) (ap (λ v. v.items) (sym h.locks))
    (ap (λ b. with_if mark_before b (UnitOf d.unit) (cond (w.0 == w.0) less marks)) (ended_by_nobody w d.outcome) ∙ (ap (λ b. cond b less marks) (eq-eqb w.0 w.0 refl) ∙ sym h.claimed)) (h.last ∙ last)

-- what changes of no marks that run leave
queued : {X : Type 0} (after : X → Change → X) (x : X) → ((m : MarkId) → after x (Move m Waiting Queued) ≡ x) → (us : List ℕ) → after_all after x (moved_units us Waiting Queued) ≡ x
queued after x none [] = refl
queued {X} after x none (u ∷ us) = ap (λ (y : X). after_all after y (moved_units us Waiting Queued)) (none (UnitOf u)) ∙ queued after x none us

pub part_submitted : {E : Type 0} {w : WorkerId} {old new : BookView} {part : WorkerPart} {a : ℕ} (f : Follows {E = E} w (Submit a) old new (Ok Finished) part) (n : ℕ) → n ≡ length new.history → IsPartOf new w (record part { last = n })
part_submitted {E} {w} {old} {new} {part} {a} f n last =
    let us : List ℕ = items_of old.graph a in
    part_by_changes f (Move (ActionOf a) Waiting Queued ∷ moved_units us Waiting Queued) f.grew.1.allowed.finished.list (record part { last = n }) (queued holding_after (holding_in part) (λ m. refl) us)
    (queued locks_after part.locks.items (λ m. refl) us) (queued (claimed_after w) part.claimed.items (λ m. refl) us) last

-- its lists have the room that they had
pub room_kept : {lease : Bool} {marks : List MarkId} (part after : WorkerPart) (n : ℕ) → HasRoom part → HasMarks lease marks (record part { last = n }) after → HasRoom after
room_kept part after n room h =
    let locks = ap (λ v. vec_len v) h.locks in
    let parked = ap (λ v. vec_len v) h.parked in record {
      mark_room = omega (arith, h.mark_room, room.mark_room);
      locks = record {
        lock_room = omega (arith, locks, parked, ap (λ v. vec_capacity v) h.locks, room.locks.lock_room);
        park_room = omega (arith, locks, parked, ap (λ v. vec_capacity v) h.parked, room.locks.park_room);
      };
    }
