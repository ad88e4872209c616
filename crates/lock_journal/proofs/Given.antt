-- A book that gave its entries away, or whose changes aren't noted any more.
use Rattle.std.proofs.Common.{◌≡◌, ◌≤◌, ◌+◌, [], length, inl, sym, ◌∙◌, ap, subst}
use Rattle.std.specs.List.{All}
use Rattle.lock_journal.specs.Names.{GraphView, StateView, Lawful, Entry, replay, TentativeView, AreLastOrNone, IsSound, IsFitKind, HistoryView}
use Rattle.ready_work.specs.ReadyWork.{IsIndexOf}
use Rattle.lock_transforms.proofs.lemmas.Rooms.{more_room}
use Rattle.lock_journal.specs.declared.books.Book.TheInside.{Inside}

-- the same entries, of which fewer are kept
pub sound_given : (a : Inside) (history : HistoryView) → IsSound a → history.entries ≡ a.history.entries → history.units ≡ a.tentative.graph.units
    → IsSound (record { tentative = a.tentative; history = history; ready = a.ready })
sound_given a history sound entries units = record {
  noted = subst (AreLastOrNone a.tentative.made) (sym entries) sound.noted;
  room = sound.room;
  units = units;
  fit = subst (All (λ (e : Entry). IsFitKind e.kind)) (sym entries) sound.fit;
  lawful = subst (Lawful a.tentative.graph) (sym entries) sound.lawful;
  replays = sound.replays ∙ ap (replay a.tentative.graph) (sym entries);
  index = sound.index;
}

-- the same graph, state and entries, no less room, and no changes noted
pub sound_forgotten : (a : Inside) (t : TentativeView) (history : HistoryView) → IsSound a → t.graph ≡ a.tentative.graph → t.state ≡ a.tentative.state → t.made ≡ []
    → a.tentative.room + length a.tentative.made ≤ t.room + length t.made → history.entries ≡ a.history.entries → history.units ≡ a.history.units
    → IsSound (record { tentative = t; history = history; ready = a.ready })
sound_forgotten a t history sound graph state none room entries units = record {
  noted = inl none;
  room = more_room sound.room graph room;
  units = units ∙ sound.units ∙ ap (λ (g : GraphView). g.units) (sym graph);
  fit = subst (All (λ (e : Entry). IsFitKind e.kind)) (sym entries) sound.fit;
  lawful = subst (λ (g : GraphView). Lawful g history.entries) (sym graph) (subst (Lawful a.tentative.graph) (sym entries) sound.lawful);
  replays = state ∙ sound.replays ∙ ap (replay a.tentative.graph) (sym entries) ∙ ap (λ (g : GraphView). replay g history.entries) (sym graph);
  index = subst (λ (g : GraphView). IsIndexOf g t.state a.ready) (sym graph) (subst (λ (s : StateView). IsIndexOf a.tentative.graph s a.ready) (sym state) sound.index);
}
