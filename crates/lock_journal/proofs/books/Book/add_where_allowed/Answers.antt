use Rattle.std.proofs.Common.{◌≡◌, List, [], ◌∷◌, ◌++◌, Some, inl, inr, refl, sym, ◌∙◌, ap, subst, arith}
use Rattle.lock_journal.specs.Names.{GraphView, StateView, Change, Allowed, BookView, last_changes, Entry, entry, effect}
use Rattle.lock_journal.specs.Book.{FollowsEntry}
use Rattle.lock_journal.proofs.Given.{sound_forgotten}
use Rattle.lock_journal.proofs.LastNoted.{last_pushed}
use Rattle.lock_transforms.proofs.lemmas.Rooms.{more_room}
use Rattle.lock_journal.proofs.StoredChanges.{own_changes}
use Rattle.lock_journal.proofs.lemmas.Replays.{Extends, sound_extended}
use Rattle.lock_journal.proofs.books.Book.add_where_allowed.Goals as goal

pub push_finished-requires-clause-own : goal.push_finished-requires-clause-own
push_finished-requires-clause-own c = own_changes c.self.inside.tentative.state c.args.worker c.args.changes.now (c.if-not-admit.ensures.allowed refl).finished.possible

-- what the index follows
pub follow_entry-requires : goal.follow_entry-requires
follow_entry-requires c = (
  c.self.inside.tentative,
  c.args.worker,
  subst (λ (cs : List Change). FollowsEntry c.self.inside.tentative c.admit.new.self (entry c.args.worker c.args.kind (Some cs)) c.self.inside.ready) (sym (c.if-not-admit.ensures.made refl refl)) (record {
    graph = c.if-not-admit.ensures.graph;
    state = c.if-not-admit.ensures.state refl refl;
    allowed = c.if-not-admit.ensures.allowed refl;
    index = c.self.invariant.index;
  }),
)

-- the entry that was admitted
extended : (c : goal.After-follow_entry) → Extends c.self.inside (record { tentative = c.admit.new.self; history = c.push_finished.new.self; ready = c.follow_entry.new.ready }) (entry c.args.worker c.args.kind (Some c.args.changes.now))
extended c = record {
  noted = inr (c.if-not-admit.ensures.made refl refl ∙ sym (ap last_changes c.push_finished.ensures.entries ∙ last_pushed c.self.inside.history.entries c.args.worker c.args.kind c.args.changes.now));
  room = more_room c.self.invariant.room c.if-not-admit.ensures.graph (omega (arith, c.if-not-admit.ensures.room));
  graph = c.if-not-admit.ensures.graph;
  units = c.push_finished.ensures.units;
  entries = c.push_finished.ensures.entries;
  state = c.if-not-admit.ensures.state refl refl;
  allowed = c.if-not-admit.ensures.allowed refl;
  fit = c.push_finished.ensures.fit;
  index = c.follow_entry.ensures;
}

-- an entry that was refused leaves no changes
pub invariant_of-self : goal.invariant_of-self
invariant_of-self c =
    sound_forgotten c.self.inside c.admit.new.self c.self.inside.history c.self.invariant c.if-not-admit.ensures.graph (c.if-not-admit.ensures.undone (inl refl)) (c.if-not-admit.ensures.fresh (inl refl))
    (omega (arith, c.if-not-admit.ensures.room)) refl refl

pub invariant_of-self-2 : goal.invariant_of-self-2
invariant_of-self-2 c = sound_extended c.self.inside _ _ c.self.invariant (extended c)

pub returns-clause-admitted : goal.returns-clause-admitted
returns-clause-admitted c = λ _.
    let e : Entry = entry c.args.worker c.args.kind (Some c.args.changes.now) in
    let more = extended c in
    let graph : c.self.inside.tentative.graph ≡ c.args.self.now.graph = ap (λ (l : BookView). l.graph) c.self.view_is in
    let history : c.self.inside.history.entries ≡ c.args.self.now.history = ap (λ (l : BookView). l.history) c.self.view_is in
    let state : c.self.inside.tentative.state ≡ c.args.self.now.state = ap (λ (l : BookView). l.state) c.self.view_is in
    record {
      graph = more.graph ∙ graph;
      allowed = subst (λ (o : GraphView). Allowed o c.args.self.now.state e) graph (subst (λ (s : StateView). Allowed c.self.inside.tentative.graph s e) state more.allowed);
      history = more.entries ∙ ap (λ (h : List Entry). h ++ e ∷ []) history;
      state = more.state ∙ ap (λ (s : StateView). effect s e) state;
      given = c.push_finished.ensures.given ∙ ap (λ (l : BookView). l.given) c.self.view_is;
    }
