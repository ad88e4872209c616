-- A worker's part of a book after a transform of the worker.
use Rattle.std.proofs.Common.{◌≡◌, ℕ, ◌-◌, ◌<◌, List, [], ◌∷◌, ◌++◌, length, length-append, Result, Ok, Some, None, refl, sym, ap, ◌∙◌, subst, arith}
use Rattle.std.specs.Prelude.{slice_get, vec_capacity}
use Rattle.std.proofs.Math.Seq.{get_or-append_seam}
use Rattle.std.proofs.lemmas.Option.{slice_get-get_or}
use Rattle.lock_journal.specs.Names.{holding_after, make_all, Change, Good, BelongsTo, Holding, StateView, LockId, WorkerId, MarkId, Entry, entry}
use Rattle.lock_journal.specs.Names.{locks_gained, Kind, BookView, last_changes, made_by, after_all, claimed_after, locks_after, Disposition}
use Rattle.lock_journal.specs.Names.{Finished}
use Rattle.resource_lock.proofs.lemmas.Runs.{worker_from}
use Rattle.lock_transforms.specs.declared.transforms.Disposition.TheVariants.{Failed}
use Rattle.lock_journal.proofs.lemmas.Named.{belongs, good}
use Rattle.lock_journal.proofs.lemmas.OwnChanges.{own_claimed_all, own_holding_all, own_locks_all}
use Rattle.worker_notes.specs.Names.{IsSoundBook, last_of, Follows, IsPartOf, LeadsOn, holding_in}
use Rattle.worker_notes.specs.Parts.{Has, lock_count, lock_total}
use Rattle.worker_notes.specs.declared.parts.WorkerPart.{WorkerPart}
use Rattle.worker_notes.proofs.lemmas.FewMarks.{Keeps, keeps}
use Rattle.worker_notes.proofs.lemmas.Growing.{last_of-own}
use Rattle.worker_notes.proofs.lemmas.LocksOnTheWay.{few_locks_on_the_way}
use Rattle.worker_notes.proofs.lemmas.OnTheWay.{few_on_the_way}

-- at a result that is known by an equation
pub follows_at : {E : Type 0} (w : WorkerId) (kind : Kind) (old new : BookView) (r s : Result Disposition E) (part : WorkerPart) → r ≡ s → Follows w kind old new r part → Follows w kind old new s part
follows_at w kind old new r s part is f = subst (λ t. Follows w kind old new t part) is f

-- of a transform of a known kind that finished
pub finished_as : {E : Type 0} {w : WorkerId} {kind known : Kind} {old new : BookView} {r : Result Disposition E} {part : WorkerPart} → Follows w kind old new r part → r ≡ Ok Finished → kind ≡ known → Follows {E = E} w known old new (Ok Finished) part
finished_as {E} {w} {kind} {known} {old} {new} {r} {part} f is at = subst (λ (k : Kind). Follows {E = E} w k old new (Ok Finished) part) at (follows_at w kind old new r (Ok Finished) part is f)

pub belongs_sound : (book : BookView) → IsSoundBook book → BelongsTo book.graph book.state
belongs_sound book sound = subst (BelongsTo book.graph) (sym sound.replays) (belongs book.graph book.history sound.lawful)

pub good_sound : (book : BookView) → IsSoundBook book → Good book.state
good_sound book sound = subst Good (sym sound.replays) (good book.graph book.history sound.lawful)

last_of_more : (h : List Entry) (e : Entry) → slice_get (h ++ e ∷ []) (length (h ++ e ∷ []) - 1) ≡ Some e
last_of_more h e =
    let count = length-append h (e ∷ []) in
    let place : length (h ++ e ∷ []) - 1 ≡ length h = omega arith in
    ap (slice_get (h ++ e ∷ [])) place ∙ slice_get-get_or (h ++ e ∷ []) (length h) e (omega arith) ∙ ap Some (get_or-append_seam h e [] e)

module _ {E : Type 0} (w : WorkerId) (kind : Kind) (old new : BookView) (part : WorkerPart) (f : Follows {E = E} w kind old new (Ok Finished) part) where
  -- the last entry wasn't given away
  pub last_kept : new.given < length new.history
  last_kept =
      let more = ap (λ (h : List Entry). length h) f.grew.1.history ∙ length-append old.history (entry w kind (Some f.grew.0) ∷ []) in
      let given = f.given in
      let within = f.within in omega arith

  -- the last entry's changes are those that were made
  pub changes_made : last_changes new.history ≡ f.grew.0
  changes_made = ap last_changes f.grew.1.history ∙ ap made_by (last_of_more old.history (entry w kind (Some f.grew.0)))

  pub leads_from : (n : ℕ) → LeadsOn old.state w (record part { last = n }) f.grew.0
  leads_from n =
      let b = belongs_sound old f.sound in
      let finishes = f.grew.1.allowed in
      let here = worker_from old.graph old.state w b finishes.worker in
      let room = f.lists refl in
      let gained : locks_gained kind (length (last_changes new.history)) ≡ locks_gained kind (length f.grew.0) = ap (λ (cs : List Change). locks_gained kind (length cs)) changes_made in
      let count : lock_count part ≡ lock_total old.state w = omega (
        arith,
        ap (λ (ls : List LockId). length ls) f.kept.has.locks,
        ap (λ (h : Holding). length h.parked) f.kept.has.holding,
        part.locks.ok.0,
        part.parked.ok.0,
      ) in record {
        good = good_sound old f.sound;
        worker = here;
        named = finishes.finished.named;
        possible = finishes.finished.possible;
        has = record { holding = f.kept.has.holding; locks = f.kept.has.locks; claimed = f.kept.has.claimed };
        few = few_on_the_way old.graph old.state w kind f.grew.0 b here finishes.kind finishes.finished
            (subst (λ s. Keeps s w) (sym f.sound.replays) (keeps old.graph old.history w f.sound.lawful));
        mark_room = f.room.mark_room;
        lists = λ front behind is. (
          few_locks_on_the_way (vec_capacity part.locks) old.graph old.state w kind f.grew.0 here finishes.finished (omega (arith, count, gained, room.lock_room)) front behind is,
          few_locks_on_the_way (vec_capacity part.parked) old.graph old.state w kind f.grew.0 here finishes.finished (omega (arith, count, gained, room.park_room)) front behind is,
        );
      }

  -- the part of the state behind them is that of the book
  pub part_of_all : (after : WorkerPart) (n : ℕ) → Has (make_all old.state w f.grew.0) w after → after.last ≡ n → n ≡ length new.history → IsPartOf new w after
  part_of_all after n has last long =
      let e : Entry = entry w kind (Some f.grew.0) in
      let history : new.history ≡ old.history ++ e ∷ [] = f.grew.1.history in record {
        has = subst (λ (s : StateView). Has s w after) (sym f.grew.1.state) has;
        last = last ∙ (long ∙ (ap (λ (h : List Entry). length h) history ∙ sym (ap (λ (h : List Entry). last_of w h) history ∙ last_of-own w old.history e refl)));
      }

-- the part behind an entry, by what its changes leave of the part before it
pub part_by_changes : {E : Type 0} {w : WorkerId} {kind : Kind} {old new : BookView} {part : WorkerPart} (f : Follows {E = E} w kind old new (Ok Finished) part) (cs : List Change) → f.grew.0 ≡ cs → (after : WorkerPart)
    → after_all holding_after (holding_in part) cs ≡ holding_in after → after_all locks_after part.locks.items cs ≡ after.locks.items → after_all (claimed_after w) part.claimed.items cs ≡ after.claimed.items
    → after.last ≡ length new.history → IsPartOf new w after
part_by_changes {E} {w} {kind} {old} {new} {part} f cs made after holding locks marks last =
    let s : StateView = old.state in
    let here = worker_from old.graph s w (belongs_sound old f.sound) f.grew.1.allowed.worker in
    let finishes = f.grew.1.allowed.finished in
    let has : Has (make_all s w f.grew.0) w after = record {
      holding = sym (own_holding_all s w f.grew.0 here ∙ (ap (λ (h : Holding). after_all holding_after h f.grew.0) (sym f.kept.has.holding) ∙ (ap (λ (ds : List Change). after_all holding_after (holding_in part) ds) made ∙ holding)));
      locks = sym (own_locks_all s w f.grew.0 finishes.named finishes.possible
          ∙ (ap (λ (ls : List LockId). after_all locks_after ls f.grew.0) (sym f.kept.has.locks) ∙ (ap (λ (ds : List Change). after_all locks_after part.locks.items ds) made ∙ locks)));
      claimed = sym (own_claimed_all s w f.grew.0 finishes.named finishes.possible
          ∙ (ap (λ (ms : List MarkId). after_all (claimed_after w) ms f.grew.0) (sym f.kept.has.claimed) ∙ (ap (λ (ds : List Change). after_all (claimed_after w) part.claimed.items ds) made ∙ marks)));
    } in
    part_of_all w kind old new part f after after.last has refl last

-- a failed transform leaves all but the number of the last entry
pub part_failed : {E : Type 0} (w : WorkerId) (kind : Kind) (old new : BookView) (part : WorkerPart) (n : ℕ) → Follows {E = E} w kind old new (Ok Failed) part → n ≡ length new.history → IsPartOf new w (record part { last = n })
part_failed w kind old new part n f long =
    let e : Entry = entry w kind None in
    let history : new.history ≡ old.history ++ e ∷ [] = f.grew.0 in
    let has = subst (λ (s : StateView). Has s w part) (sym f.grew.1) f.kept.has in record {
      has = record { holding = has.holding; locks = has.locks; claimed = has.claimed };
      last = long ∙ (ap (λ (h : List Entry). length h) history ∙ sym (ap (λ (h : List Entry). last_of w h) history ∙ last_of-own w old.history e refl));
    }
