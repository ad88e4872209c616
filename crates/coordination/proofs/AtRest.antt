-- What a book says where every pass holds nothing, and of whom its entries are.
use Rattle.std.proofs.Common.{◌≡◌, ◌<◌, List, [], ◌∷◌, map, get_or, Option, None, Some, inl, inr, refl, sym, ◌∙◌, subst, arith}
use Rattle.std.proofs.lemmas.Bool.{cases_lt}
use Rattle.std.specs.List.{All}
use Rattle.std.proofs.lemmas.List.{get_or_past}
use Rattle.std.proofs.lemmas.List.Elements.{All-cons, All-head, All-nil, All-tail}
use Rattle.lock_journal.specs.Names.{GraphView, StateView, empty_holding, holding_of, owner_of, LockId, WorkerId, lawful_from, Entry, effect}
use Rattle.lock_journal.specs.Names.{BookView, owned, claimed, IsAtRest}
use Rattle.resource_lock.proofs.lemmas.Undo.{same_worker}
use Rattle.lock_journal.specs.Own.{NamesWorkers}
use Rattle.lock_journal.proofs.lemmas.Named.{named}
use Rattle.coordination.specs.Names.{Agrees, IsSoundBook, HoldsNothing, PassView, sight, workers_from}
use Rattle.coordination.specs.declared.rule.Sight.{Sight}
use Rattle.coordination.specs.Sights.{no_book}
use Rattle.coordination.proofs.Closing.{there_is}
use Rattle.worker_notes.proofs.lemmas.Entries.{belongs_sound}
use Rattle.worker_notes.proofs.lemmas.Nothing.{owns_none, runs_none}

-- a fact of each pass is one of each sight
pub to_sights : (P : Sight → Type 0) (ps : List PassView) → All (λ p. P p.sight) ps → All P (map (λ p. p.sight) ps)
to_sights P [] all = All-nil P
to_sights P (p ∷ ps) all = All-cons P p.sight (map (λ q. q.sight) ps) (All-head (λ q. P q.sight) p ps all) (to_sights P ps (All-tail (λ q. P q.sight) p ps all))

-- a worker of the book owns, runs and has nothing
record HasNothing (s : StateView) (w : WorkerId) : Type 0 where
  locks : owned s w ≡ []
  claimed : claimed s w ≡ []
  holding : holding_of s w ≡ empty_holding

module _ (book : BookView) (ss : List Sight) (sound : IsSoundBook book) (agree : All (λ s. Agrees s.worker s.seen book) ss) (all : map (λ s. s.worker.0) ss ≡ workers_from 0 book.graph.workers) (nothing : All HoldsNothing ss) where
  has_nothing : (w : WorkerId) → w.0 < book.graph.workers → HasNothing book.state w
  has_nothing w low =
      let d : Sight = sight 0 no_book in
      let there = there_is ss book.graph.workers w.0 all low in
      let s : Sight = get_or ss w.0 d in
      let a : Agrees s.worker s.seen book = agree w.0 d there.0 in
      let h : HoldsNothing s = nothing w.0 d there.0 in
      subst (HasNothing book.state) (same_worker s.worker w (there.1 d)) (record { locks = a.state.owned ∙ h.locks; claimed = a.state.claimed ∙ h.claimed; holding = a.state.holding ∙ h.holding })

  names : NamesWorkers book.graph.workers book.state
  names = subst (NamesWorkers book.graph.workers) (sym sound.replays) (named book.graph book.history sound.lawful)

  no_owner : (l : LockId) (o : Option WorkerId) → owner_of book.state l ≡ o → o ≡ None
  no_owner l None is = refl
  no_owner l (Some w) is = absurd (owns_none book.state w (has_nothing w (names.owners l w is)).locks l is)

  pub rests_with : IsAtRest book.state
  rests_with = record {
    owners = λ l. no_owner l (owner_of book.state l) refl;
    holdings = λ w. elim (cases_lt w.0 book.graph.workers) [
      | inl low ↦ (has_nothing w low).holding
      | inr past ↦ let b = (belongs_sound book sound).workers in get_or_past book.state.holdings w.0 empty_holding (omega arith)
    ];
    marks = λ w m is. absurd (runs_none book.state w (has_nothing w (names.runners m w is)).claimed m is);
  }

entries_known : (g : GraphView) (s : StateView) (h : List Entry) → lawful_from g s h → All (λ e. e.worker.0 < g.workers) h
entries_known g s [] lawful = All-nil (λ e. e.worker.0 < g.workers)
entries_known g s (e ∷ h) lawful = All-cons (λ x. x.worker.0 < g.workers) e h lawful.0.worker (entries_known g (effect s e) h lawful.1)

-- each entry is one of the workers'
pub known_entries : (book : BookView) → IsSoundBook book → All (λ e. e.worker.0 < book.graph.workers) book.history
known_entries book sound = entries_known book.graph _ book.history sound.lawful
