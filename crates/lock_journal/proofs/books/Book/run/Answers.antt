use Rattle.std.proofs.Common.{◌≡◌, ◌≢◌, ℕ, length, List, [], ◌∷◌, ◌++◌, Some, None, inl, inr, refl, ◌∙◌, sym, ap, subst, arith}
use Rattle.lock_journal.specs.Names.{GraphView, StateView, Change, Kind, Finished, Entry, entry, effect, Allowed, IsFitKind, BookView, last_changes}
use Rattle.lock_journal.specs.Names.{IsOwnChange}
use Rattle.std.specs.List.{AllByRecursion}
use Rattle.ready_work.specs.ReadyWork.{IsIndexOf}
use Rattle.lock_journal.proofs.Given.{sound_forgotten}
use Rattle.lock_journal.proofs.LastNoted.{last_pushed}
use Rattle.lock_transforms.proofs.lemmas.Rooms.{more_room}
use Rattle.lock_journal.proofs.StoredChanges.{own_changes}
use Rattle.lock_journal.proofs.lemmas.Replays.{Extends, sound_extended}
use Rattle.lock_journal.proofs.books.Book.run.Given.{Over}
use Rattle.lock_journal.proofs.books.Book.run.Goals as goal

pub push_finished-requires-clause-own : goal.push_finished-requires-clause-own
push_finished-requires-clause-own g c =
    subst (AllByRecursion (IsOwnChange c.args.worker)) (sym c.made.ensures)
    (own_changes c.self.inside.tentative.state c.args.worker c.attempt-disposition.new.self.made (c.attempt-disposition.ensures.allowed c.in-Finished.is).finished.possible)

-- what the index follows
pub follow_entry-requires : goal.follow_entry-requires
follow_entry-requires g c = (
  c.self.inside.tentative,
  c.args.worker,
  record {
    graph = c.attempt-disposition.ensures.graph;
    state = c.attempt-disposition.ensures.made c.in-Finished.is;
    allowed = subst (λ (k : Kind). Allowed c.self.inside.tentative.graph c.self.inside.tentative.state (entry c.args.worker k (Some c.attempt-disposition.new.self.made))) (sym c.kind-kind.ensures)
        (c.attempt-disposition.ensures.allowed c.in-Finished.is);
    index = c.self.invariant.index;
  },
)

-- the entry of a transform that finished
extended : (g : Over) (c : goal.After-follow_entry g) → Extends c.self.inside (record { tentative = c.attempt-disposition.new.self; history = c.push_finished.new.self; ready = c.follow_entry.new.ready })
    (entry c.args.worker (g.T.Transform.kind_of c.args.transform.now) (Some c.attempt-disposition.new.self.made))
extended g c =
    let w = c.args.worker in
    let kind : Kind = g.T.Transform.kind_of c.args.transform.now in
    let made : List Change = c.attempt-disposition.new.self.made in
    let entries : c.push_finished.new.self.entries ≡ c.self.inside.history.entries ++ entry w kind (Some made) ∷ [] =
    c.push_finished.ensures.entries
    ∙ ap (λ (k : Kind). c.self.inside.history.entries ++ entry w k (Some c.made.result.now) ∷ []) c.kind-kind.ensures
    ∙ ap (λ (cs : List Change). c.self.inside.history.entries ++ entry w kind (Some cs) ∷ []) c.made.ensures in
    record {
      noted = inr (sym (ap last_changes entries ∙ last_pushed c.self.inside.history.entries w kind made));
      room = more_room c.self.invariant.room c.attempt-disposition.ensures.graph (omega (arith, c.attempt-disposition.ensures.room));
      graph = c.attempt-disposition.ensures.graph;
      units = c.push_finished.ensures.units;
      entries = entries;
      state = c.attempt-disposition.ensures.made c.in-Finished.is;
      allowed = c.attempt-disposition.ensures.allowed c.in-Finished.is;
      fit = subst IsFitKind c.kind-kind.ensures c.push_finished.ensures.fit;
      index = c.follow_entry.ensures;
    }

pub invariant_of-self : goal.invariant_of-self
invariant_of-self g c = sound_extended c.self.inside _ _ c.self.invariant (extended g c)

-- a transform that is to be run again leaves no changes
pub invariant_of-self-in-Retry : goal.invariant_of-self-in-Retry
invariant_of-self-in-Retry g c =
    let unfinished : c.attempt-disposition.result ≢ Finished = λ e. let f = c.in-Retry.is in cc in
    sound_forgotten c.self.inside c.attempt-disposition.new.self c.self.inside.history c.self.invariant c.attempt-disposition.ensures.graph (c.attempt-disposition.ensures.undone unfinished)
    (c.attempt-disposition.ensures.fresh unfinished) (omega (arith, c.attempt-disposition.ensures.room)) refl refl

pub invariant_of-self-in-Failed : goal.invariant_of-self-in-Failed
invariant_of-self-in-Failed g c =
    let unfinished : c.attempt-disposition.result ≢ Finished = λ e. let f = c.in-Failed.is in cc in
    let graph : c.self.inside.tentative.graph ≡ c.args.self.now.graph = ap (λ (l : BookView). l.graph) c.self.view_is ∙ c.in_ok-reserve.ensures.same.graph in
    let more : Extends c.self.inside (record { tentative = c.attempt-disposition.new.self; history = c.push_failed.new.self; ready = c.self.inside.ready }) (entry c.args.worker (g.T.Transform.kind_of c.args.transform.now) None) = record {
      noted = inl (c.attempt-disposition.ensures.fresh unfinished);
      room = more_room c.self.invariant.room c.attempt-disposition.ensures.graph (omega (arith, c.attempt-disposition.ensures.room));
      graph = c.attempt-disposition.ensures.graph;
      units = c.push_failed.ensures.units;
      entries = c.push_failed.ensures.entries
          ∙ ap (λ (k : Kind). c.self.inside.history.entries ++ entry c.args.worker k None ∷ []) c.kind.ensures;
      state = c.attempt-disposition.ensures.undone unfinished;
      allowed = record { worker = omega (arith, c.requires, ap (λ (o : GraphView). o.workers) graph); kind = c.attempt-disposition.ensures.kind c.in-Failed.is; finished = tt };
      fit = subst IsFitKind c.kind.ensures c.push_failed.ensures.fit;
      index = subst (λ (o : GraphView). IsIndexOf o c.attempt-disposition.new.self.state c.self.inside.ready) (sym c.attempt-disposition.ensures.graph)
          (subst (λ (s : StateView). IsIndexOf c.self.inside.tentative.graph s c.self.inside.ready) (sym (c.attempt-disposition.ensures.undone unfinished)) c.self.invariant.index);
    } in
    sound_extended c.self.inside _ _ c.self.invariant more

pub returns-in-Finished-clause-finished : goal.returns-in-Finished-clause-finished
returns-in-Finished-clause-finished g c = λ _.
    let more = extended g c in
    let graph : c.self.inside.tentative.graph ≡ c.args.self.now.graph = ap (λ (l : BookView). l.graph) c.self.view_is ∙ c.in_ok-reserve.ensures.same.graph in
    let history : c.self.inside.history.entries ≡ c.args.self.now.history = ap (λ (l : BookView). l.history) c.self.view_is ∙ c.in_ok-reserve.ensures.same.history in
    let state : c.self.inside.tentative.state ≡ c.args.self.now.state = ap (λ (l : BookView). l.state) c.self.view_is ∙ c.in_ok-reserve.ensures.same.state in (
      c.attempt-disposition.new.self.made,
      record {
        made = subst (λ (o : GraphView). g.T.Transform.makes c.args.transform.now o c.args.worker c.args.self.now.state c.attempt-disposition.new.self.made) graph
            (subst (λ (s : StateView). g.T.Transform.makes c.args.transform.now c.self.inside.tentative.graph c.args.worker s c.attempt-disposition.new.self.made) state (c.attempt-disposition.ensures.makes c.in-Finished.is));
        allowed = subst (λ (o : GraphView). Allowed o c.args.self.now.state (entry c.args.worker (g.T.Transform.kind_of c.args.transform.now) (Some c.attempt-disposition.new.self.made))) graph
            (subst (λ (s : StateView). Allowed c.self.inside.tentative.graph s (entry c.args.worker (g.T.Transform.kind_of c.args.transform.now) (Some c.attempt-disposition.new.self.made))) state more.allowed);
        history = more.entries ∙ ap (λ (h : List Entry). h ++ entry c.args.worker (g.T.Transform.kind_of c.args.transform.now) (Some c.attempt-disposition.new.self.made) ∷ []) history;
        state = more.state ∙ ap (λ (s : StateView). effect s (entry c.args.worker (g.T.Transform.kind_of c.args.transform.now) (Some c.attempt-disposition.new.self.made))) state;
      },
    )

pub returns-in-Finished-clause-few : goal.returns-in-Finished-clause-few
returns-in-Finished-clause-few g c = λ _.
    let more = extended g c in
    let made : List Change = c.attempt-disposition.new.self.made in
    let kind : Kind = g.T.Transform.kind_of c.args.transform.now in
    let most : GraphView → StateView → ℕ = λ o s. g.T.Transform.most c.args.transform.now o c.args.worker s in
    let graph : c.self.inside.tentative.graph ≡ c.args.self.now.graph = ap (λ (l : BookView). l.graph) c.self.view_is ∙ c.in_ok-reserve.ensures.same.graph in
    let state : c.self.inside.tentative.state ≡ c.args.self.now.state = ap (λ (l : BookView). l.state) c.self.view_is ∙ c.in_ok-reserve.ensures.same.state in
    omega (
      arith,
      ap (λ (cs : List Change). length cs) (ap last_changes more.entries ∙ last_pushed c.self.inside.history.entries c.args.worker kind made),
      c.attempt-disposition.ensures.few,
      ap (λ (o : GraphView). most o c.self.inside.tentative.state) graph,
      ap (λ (s : StateView). most c.args.self.now.graph s) state,
    )

pub returns-in_err-reserve-clause-within : goal.returns-in_err-reserve-clause-within
returns-in_err-reserve-clause-within g c = c.len.ensures.given

pub returns-in-Finished-clause-within : goal.returns-in-Finished-clause-within
returns-in-Finished-clause-within g c = c.len.ensures.given

pub returns-in-Failed-clause-within : goal.returns-in-Failed-clause-within
returns-in-Failed-clause-within g c = c.len.ensures.given

pub returns-in-Retry-clause-within : goal.returns-in-Retry-clause-within
returns-in-Retry-clause-within g c = c.len.ensures.given
