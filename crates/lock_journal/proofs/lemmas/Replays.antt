-- A history with one more entry, what it leads to, and the book that has it.
use Rattle.std.specs.Prelude.{IfSome}
use Rattle.std.proofs.Common.{◌≡◌, ◌<◌, ◌+◌, length, Option, None, Some, List, [], ◌∷◌, ◌++◌, refl, sym, ◌∙◌, ap, subst}
use Rattle.std.specs.List.{All}
use Rattle.std.proofs.lemmas.List.Elements.{All-push}
use Rattle.resource_lock.proofs.lemmas.Runs.{belongs_along, kept_all, same_shape-make_all, worker_from}
use Rattle.lock_journal.specs.Names.{make_all, Good, BelongsTo, Change, WorkerId, StateView, GraphView, opening_of, Entry, changed, effect}
use Rattle.lock_journal.specs.Names.{replay_from, replay, Allowed, Finishes, lawful_from, Lawful, Kind, IsFitKind, AreLastOrNone, IsSound, IsRoomFor}
use Rattle.ready_work.specs.ReadyWork.{IsIndexOf}
use Rattle.lock_journal.specs.declared.books.Book.TheInside.{Inside}

pub replay_from-push : (s : StateView) (h : List Entry) (e : Entry) → replay_from s (h ++ e ∷ []) ≡ effect (replay_from s h) e
replay_from-push s [] e = refl
replay_from-push s (f ∷ h) e = replay_from-push (effect s f) h e

pub lawful_from-push : (g : GraphView) (s : StateView) (h : List Entry) (e : Entry) → lawful_from g s h → Allowed g (replay_from s h) e → lawful_from g s (h ++ e ∷ [])
lawful_from-push g s [] e law allowed = (allowed, tt)
lawful_from-push g s (f ∷ h) e law allowed = (law.0, lawful_from-push g (effect s f) h e law.1 allowed)

pub replay_from-append : (s : StateView) (h later : List Entry) → replay_from s (h ++ later) ≡ replay_from (replay_from s h) later
replay_from-append s [] later = refl
replay_from-append s (e ∷ h) later = replay_from-append (effect s e) h later

-- a front of a lawful history is lawful, and so is what follows, from where the front leads
pub lawful_from-append : (g : GraphView) (s : StateView) (h later : List Entry) → lawful_from g s (h ++ later) → lawful_from g s h × lawful_from g (replay_from s h) later
lawful_from-append g s [] later lawful = (tt, lawful)
lawful_from-append g s (e ∷ h) later lawful = let rest = lawful_from-append g (effect s e) h later lawful.1 in ((lawful.0, rest.0), rest.1)

-- a lawful history leads from a good state of the graph to one
entry_good : (g : GraphView) (s : StateView) (v : WorkerId) (k : Kind) (o : Option (List Change)) → v.0 < g.workers → IfSome o (Finishes g s v k) → BelongsTo g s × Good s → BelongsTo g (changed s v o) × Good (changed s v o)
entry_good g s v k None low f old = old
entry_good g s v k (Some cs) low f old = (
  belongs_along g s (make_all s v cs) (same_shape-make_all s v cs) old.0,
  kept_all s v cs (worker_from g s v old.0 low) f.named old.1 f.possible,
)

pub entries_good : (g : GraphView) (h : List Entry) (s : StateView) → lawful_from g s h → BelongsTo g s × Good s → BelongsTo g (replay_from s h) × Good (replay_from s h)
entries_good g [] s lawful old = old
entries_good g (e ∷ h) s lawful old = entries_good g h (effect s e) lawful.1 (entry_good g s e.worker e.kind e.changes lawful.0.worker lawful.0.finished old)

-- b is a with one more entry, which was allowed, with its effect, and with the index of that
pub record Extends (a b : Inside) (e : Entry) : Type 0 where
  pub noted : AreLastOrNone b.tentative.made b.history.entries
  pub room : IsRoomFor b.tentative.graph (b.tentative.room + length b.tentative.made)
  pub graph : b.tentative.graph ≡ a.tentative.graph
  pub units : b.history.units ≡ a.history.units
  pub entries : b.history.entries ≡ a.history.entries ++ e ∷ []
  pub state : b.tentative.state ≡ effect a.tentative.state e
  pub allowed : Allowed a.tentative.graph a.tentative.state e
  pub fit : IsFitKind e.kind
  pub index : IsIndexOf b.tentative.graph b.tentative.state b.ready

pub sound_extended : (a b : Inside) (e : Entry) → IsSound a → Extends a b e → IsSound b
sound_extended a b e sound more =
    let allowed : Allowed a.tentative.graph (replay a.tentative.graph a.history.entries) e = subst (λ (s : StateView). Allowed a.tentative.graph s e) sound.replays more.allowed in
    let lawful : Lawful a.tentative.graph (a.history.entries ++ e ∷ []) = lawful_from-push a.tentative.graph (opening_of a.tentative.graph) a.history.entries e sound.lawful allowed in
    record {
      noted = more.noted;
      room = more.room;
      units = more.units ∙ sound.units ∙ ap (λ (g : GraphView). g.units) (sym more.graph);
      fit = subst (All (λ e. IsFitKind e.kind)) (sym more.entries) (All-push (λ e. IsFitKind e.kind) a.history.entries e sound.fit more.fit);
      lawful = subst (λ (g : GraphView). Lawful g b.history.entries) (sym more.graph) (subst (Lawful a.tentative.graph) (sym more.entries) lawful);
      replays = more.state
          ∙ ap (λ (s : StateView). effect s e) sound.replays
          ∙ sym (replay_from-push (opening_of a.tentative.graph) a.history.entries e)
          ∙ ap (replay a.tentative.graph) (sym more.entries)
          ∙ ap (λ (g : GraphView). replay g b.history.entries) (sym more.graph);
      index = more.index;
    }
