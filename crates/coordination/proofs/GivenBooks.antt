-- A book that gave its history away, as the worker sees it.
use Rattle.std.proofs.Common.{◌≡◌, Bool, true, false, [], Option, refl, sym, ap, ◌∙◌, subst, append-nil}
use Rattle.lock_journal.specs.Names.{WorkerId, BookView, GivesTo, SegmentView}
use Rattle.lock_journal.specs.Giving.{CanGive}
use Rattle.history_views.specs.Growing.{ReachView}
use Rattle.history_views.specs.ShownBooks.{IsTold, IsUnchanged}
use Rattle.coordination.specs.Names.{Agrees, AddsOwn, M, Taken, carried_book, one, seeing, sight_of}
use Rattle.coordination.specs.Giving.{HasTakenHistory, HasTakenNone}
use Rattle.coordination.specs.Passes.{IsPass}
use Rattle.coordination.specs.declared.passes.Notes.{Notes}
use Rattle.coordination.specs.declared.rule.Sight.{Sight}
use Rattle.coordination.specs.declared.rule.SeatView.{SeatView}
use Rattle.coordination.proofs.PassSteps.{closes_pass, part_on}
use Rattle.coordination.proofs.TakenBooks.{sound-same, taken_book, taken_sight}
use Rattle.worker_notes.proofs.lemmas.Growing.{agrees_same, agrees_then}

-- a book that gives, or can't, has the graph, the state and the history that it had
left_by : (given : Bool) (old new : BookView) (s s' : SegmentView) → (given ≡ true → GivesTo old new s s') → (given ≡ false → (new ≡ old) × (s' ≡ s)) → IsUnchanged old new
left_by true old new s s' gives same = let g = gives refl in record { graph = g.graph; state = g.state; history = g.history }
left_by false old new s s' gives same =
    let is = (same refl).0 in record { graph = ap (λ (b : BookView). b.graph) is; state = ap (λ (b : BookView). b.state) is; history = ap (λ (b : BookView). b.history) is }

-- m took the book and became m', and in m'' the book has given its entries to the segment, or couldn't
module _ (m m' m'' : M) (t : Taken m m') (same : m''.0 ≡ m'.0) (given : Bool) (s s' : SegmentView) (gives : given ≡ true → GivesTo (carried_book m'.1) (carried_book m''.1) s s')
    (not : given ≡ false → (carried_book m''.1 ≡ carried_book m'.1) × (s' ≡ s)) where
  unchanged : IsUnchanged t.book (carried_book m''.1)
  unchanged = subst (λ (b : BookView). IsUnchanged b (carried_book m''.1)) (taken_book m m' t) (left_by given (carried_book m'.1) (carried_book m''.1) s s' gives not)

  adds_none : AddsOwn (seeing (sight_of m.0) t.book) (carried_book m''.1)
  adds_none = record {
    more = [];
    graph = unchanged.graph;
    history = unchanged.history ∙ sym (append-nil t.book.history);
    own = λ w ne. tt;
    sound = λ sound. sound-same t.book (carried_book m''.1) sound unchanged.graph unchanged.state unchanged.history;
  }

  pub given_owns : AddsOwn (sight_of m''.0) (carried_book m''.1)
  given_owns = subst (λ (k : Sight). AddsOwn k (carried_book m''.1)) (sym (taken_sight m m' m'' t same)) adds_none

  agrees : Agrees (sight_of m.0).worker (sight_of m.0).seen (carried_book m''.1)
  agrees = agrees_then _ _ t.book (carried_book m''.1) t.found.agrees (agrees_same _ t.book (carried_book m''.1) unchanged.graph unchanged.state unchanged.history)

  -- once it is back
  module _ (n : M) (back : n ≡ (one m''.0.ledger (seeing (sight_of m''.0) (carried_book m''.1)), [])) where
    sight_is : sight_of n.0 ≡ seeing (sight_of m.0) (carried_book m''.1)
    sight_is = ap (λ (x : M). sight_of x.0) back ∙ ap (λ (k : Sight). seeing k (carried_book m''.1)) (taken_sight m m' m'' t same)

    pub given_worker : (sight_of n.0).worker ≡ (sight_of m.0).worker
    given_worker = ap (λ (k : Sight). k.worker) sight_is

    pub given_pass : (worker : WorkerId) (notes : Notes) (reach : Option ReachView) → IsPass worker notes m → IsTold m'.0.ledger reach (carried_book m''.1) → IsPass worker (record { part = notes.part; reach = reach }) n
    given_pass worker notes reach p told =
        closes_pass worker (record { part = notes.part; reach = reach }) n m''.0.ledger (seeing (sight_of m''.0) (carried_book m''.1)) (seeing (sight_of m.0) (carried_book m''.1)) back sight_is p.worker_is
        (part_on _ _ (carried_book m''.1) notes.part agrees p.part_is) p.room
        (subst (λ (v : SeatView). IsTold v.ledger reach (carried_book m''.1)) (sym same) told)

    pub has_taken : given ≡ true → CanGive (carried_book m'.1) s → HasTakenHistory (sight_of m.0) (sight_of n.0) s s'
    has_taken is can = record {
      before = t.book;
      after = carried_book m''.1;
      found = t.found;
      can = subst (λ (b : BookView). CanGive b s) (taken_book m m' t) can;
      given = subst (λ (b : BookView). GivesTo b (carried_book m''.1) s s') (taken_book m m' t) (gives is);
      left = adds_none.sound t.found.sound;
      sight = sight_is;
    }

    pub has_taken_none : given ≡ false → (CanGive (carried_book m'.1) s → ⊥) → HasTakenNone (sight_of m.0) (sight_of n.0) s s'
    has_taken_none is cannot = record {
      book = t.book;
      found = t.found;
      cannot = subst (λ (b : BookView). CanGive b s → ⊥) (taken_book m m' t) cannot;
      same = (not is).1;
      sight = sight_is ∙ ap (seeing (sight_of m.0)) ((not is).0 ∙ taken_book m m' t);
    }
