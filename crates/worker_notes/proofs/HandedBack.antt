-- The part of a worker after all that it had was handed back.
use Rattle.std.proofs.Common.{◌≡◌, ◌≤◌, ℕ, Bool, true, false, cond, List, [], ◌∷◌, ◌++◌, length, map, Ok, refl, sym, ap, ◌∙◌, subst, arith}
use Rattle.std.specs.Prelude.{vec_capacity}
use Rattle.std.proofs.lemmas.Bool.{le-ltb}
use Rattle.lock_journal.specs.Names.{holding_after, Holding, holding_of, Change, Unlock, Give, LockId, WorkerId, MarkId, HandBack, Finished, BookView}
use Rattle.lock_journal.specs.Names.{after_all, claimed_after, lock_before, locks_after, without_member}
use Rattle.worker_notes.specs.Parts.{Follows, HasHandedBack, HasRoom, IsPartOf, holding_in}
use Rattle.worker_notes.specs.declared.parts.WorkerPart.{WorkerPart}
use Rattle.worker_notes.proofs.lemmas.Entries.{part_by_changes}

-- its changes, by the locks and whether there is a lease
abbrev all_given : List LockId → Bool → List Change
all_given ls leased = map Unlock ls ++ cond leased (Give ∷ []) []

first_gone : (l : LockId) (ls : List LockId) → without_member lock_before l (l ∷ ls) ≡ ls
first_gone l ls = ap (λ b. cond b (l ∷ without_member lock_before l ls) (cond b (l ∷ ls) ls)) (le-ltb l.0 l.0 (omega arith))

locks_gone : (ls : List LockId) (leased : Bool) → after_all locks_after ls (all_given ls leased) ≡ []
locks_gone [] true = refl
locks_gone [] false = refl
locks_gone (l ∷ ls) leased = ap (λ (ks : List LockId). after_all locks_after ks (all_given ls leased)) (first_gone l ls) ∙ locks_gone ls leased

lease_gone : (h : Holding) (ls : List LockId) → after_all holding_after h (all_given ls h.lease) ≡ record h { lease = false }
lease_gone h [] = at h.lease refl
  where
    at : (b : Bool) → h.lease ≡ b → after_all holding_after h (cond b (Give ∷ []) []) ≡ record h { lease = false }
    at true is = refl
    at false is = λ i. record h { lease = is i }
lease_gone h (l ∷ ls) = lease_gone h ls

marks_stay : (w : WorkerId) (ms : List MarkId) (ls : List LockId) (leased : Bool) → after_all (claimed_after w) ms (all_given ls leased) ≡ ms
marks_stay w ms [] true = refl
marks_stay w ms [] false = refl
marks_stay w ms (l ∷ ls) leased = marks_stay w ms ls leased

module _ {E : Type 0} {w : WorkerId} {old new : BookView} {part : WorkerPart} (f : Follows {E = E} w HandBack old new (Ok Finished) part) (n : ℕ) (after : WorkerPart) (h : HasHandedBack (record part { last = n }) after) where
  pub part_handed_back : n ≡ length new.history → IsPartOf new w after
  part_handed_back last =
      let ls : List LockId = part.locks.items in
      let made : f.grew.0 ≡ all_given ls part.lease = f.grew.1.allowed.finished.list
      ∙ (ap (λ (ks : List LockId). all_given ks (holding_of old.state w).lease) (sym f.kept.has.locks) ∙ ap (λ (x : Holding). all_given ls x.lease) (sym f.kept.has.holding)) in
      part_by_changes f (all_given ls part.lease) made after (lease_gone (holding_in part) ls ∙ sym h.holding) (locks_gone ls part.lease ∙ sym h.locks)
      (marks_stay w part.claimed.items ls part.lease ∙ ap (λ v. v.items) (sym h.claimed)) (h.last ∙ last)

  pub room_handed_back : HasRoom after
  room_handed_back =
      let none = ap (λ (ls : List LockId). length ls) h.locks in record {
        mark_room = subst (λ v. 3 ≤ vec_capacity v) (sym h.claimed) f.room.mark_room;
        locks = record {
          lock_room = omega (arith, none, after.locks.ok.0, ap (λ v. length v.items) h.parked, after.parked.ok.0, part.parked.ok.0, h.lock_room, f.room.locks.lock_room);
          park_room = omega (arith, none, after.locks.ok.0, ap (λ v. length v.items) h.parked, after.parked.ok.0, part.parked.ok.0, ap (λ v. vec_capacity v) h.parked, f.room.locks.park_room);
        };
      }
