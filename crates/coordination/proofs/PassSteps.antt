-- A pass closes again after its steps.
use Rattle.std.proofs.Common.{◌≡◌, ◌≤◌, ℕ, arith, Option, Some, None, List, refl, sym, ap, ◌∙◌, subst, [], ◌∷◌}
use Rattle.lock_journal.specs.Names.{WorkerId, BookView}
use Rattle.coordination.specs.declared.passes.Notes.{Notes}
use Rattle.worker_notes.specs.declared.parts.WorkerPart.{WorkerPart}
use Rattle.coordination.specs.declared.rule.Sight.{Sight}
use Rattle.worker_notes.specs.Agrees.{Agrees}
use Rattle.worker_notes.specs.Parts.{HasLockRoom, HasRoom, IsPartOf}
use Rattle.history_views.specs.ShownBooks.{IsTold}
use Rattle.coordination.specs.Passes.{IsPass, me_in, view_in}
use Rattle.coordination.specs.declared.rule.SeatView.{SeatView}
use Rattle.history_views.specs.Growing.{ReachView}
use Rattle.logbook.specs.Pages.{Book as Ledger}
use Rattle.coordination.specs.Rule.{Hears, M, Taken}
use Rattle.coordination.specs.Sights.{hearing, one, sight_of, stopping}

-- the part of a worker is that of any book that agrees with what it saw
pub part_on : (w : WorkerId) (seen book : BookView) (part : WorkerPart) → Agrees w seen book → IsPartOf seen w part → IsPartOf book w part
part_on w seen book part a p = record {
  has = record { holding = p.has.holding ∙ sym a.state.holding; locks = p.has.locks ∙ sym a.state.owned; claimed = p.has.claimed ∙ sym a.state.claimed };
  last = p.last ∙ sym a.last;
}

-- room for fewer
pub room_for_fewer : (less more : ℕ) (part : WorkerPart) → less ≤ more → HasLockRoom more part → HasLockRoom less part
room_for_fewer less more part le room = record { lock_room = omega (arith, le, room.lock_room); park_room = omega (arith, le, room.park_room) }

-- a seat that is alone again is a pass
pub closes_pass : (worker : WorkerId) (notes : Notes) (me : M) (l : Option Ledger) (k s : Sight) → me ≡ (one l k, []) → sight_of me.0 ≡ s → worker ≡ s.worker → IsPartOf s.seen s.worker notes.part
    → HasRoom notes.part → IsTold l notes.reach s.seen → IsPass worker notes me
closes_pass worker notes me l k s lone is w p room told = record {
  lone = lone ∙ (λ i. (one (sym (ap (λ (m : M). m.0.ledger) lone) i) (sym (ap (λ (m : M). sight_of m.0) lone) i), []));
  worker_is = w ∙ sym (ap (λ (x : Sight). x.worker) is);
  part_is = subst (λ (x : Sight). IsPartOf x.seen x.worker notes.part) (sym is) p;
  room = room;
  told = subst (λ (p : Option Ledger × Sight). IsTold p.0 notes.reach p.1.seen) (λ i. (sym (ap (λ (m : M). m.0.ledger) lone) i, sym is i)) told;
}

-- where no ledger shows the history, nothing was written of it
pub untold : (l : Option Ledger) (reach : Option ReachView) (book : BookView) → IsTold l reach book → l ≡ None → reach ≡ None
untold None None book told none = refl
untold None (Some r) book told none = absurd told
untold (Some l) reach book told none = absurd (cc)

-- the same after the book was taken out
pub untold_in : (m m' : M) (t : Taken m m') (reach : Option ReachView) → IsTold m.0.ledger reach (sight_of m.0).seen → m'.0.ledger ≡ None → reach ≡ None
untold_in m m' t reach told none = untold m.0.ledger reach (sight_of m.0).seen told (sym (ap (λ (x : M). x.0.ledger) t.is) ∙ none)

-- the seat that is left as a badge
seat_is : (views : List SeatView) (me : M) → views ≡ me.0 ∷ [] → me.1 ≡ [] → me ≡ me_in views
seat_is views me is holds = λ i. (sym (ap view_in is) i, holds i)

pub badge_is : (views : List SeatView) (v : SeatView) → views ≡ v ∷ [] → views ≡ view_in views ∷ []
badge_is views v is = is ∙ ap (λ (x : SeatView). x ∷ []) (sym (ap view_in is))

pub at_badge : (worker : WorkerId) (notes : Notes) (me : M) (views : List SeatView) → IsPass worker notes me → views ≡ me.0 ∷ [] → IsPass worker notes (me_in views)
at_badge worker notes me views p is = subst (IsPass worker notes) (seat_is views me is (ap (λ (m : M). m.1) p.lone)) p

pub lone_at : (views : List SeatView) (me : M) → views ≡ me.0 ∷ [] → me.1 ≡ [] → me_in views ≡ (one (view_in views).ledger (sight_of (view_in views)), []) → me ≡ (one me.0.ledger (sight_of me.0), [])
lone_at views me is holds lone = let same = seat_is views me is holds in subst (λ (m : M). m ≡ (one m.0.ledger (sight_of m.0), [])) (sym same) lone

pub hears_pass : (worker : WorkerId) (notes : Notes) (m m' : M) (by : WorkerId) → IsPass worker notes m → Hears m by m' → IsPass worker notes m'
hears_pass worker notes m m' by p h =
    let s : Sight = hearing (sight_of m.0) by in closes_pass worker notes m' m.0.ledger s s h.is (ap (λ (x : M). sight_of x.0) h.is) p.worker_is p.part_is p.room p.told

pub stops_pass : (worker : WorkerId) (notes : Notes) (m m' : M) → IsPass worker notes m → m' ≡ (one m.0.ledger (stopping (sight_of m.0)), []) → IsPass worker notes m'
stops_pass worker notes m m' p is =
    let s : Sight = stopping (sight_of m.0) in closes_pass worker notes m' m.0.ledger s s is (ap (λ (x : M). sight_of x.0) is) p.worker_is p.part_is p.room p.told
