use Rattle.std.proofs.Common.{◌≡◌, None, inl, sym, ◌∙◌, ap, subst, arith}
use Rattle.lock_journal.specs.Names.{GraphView, StateView, IsKindOf, BookView, entry, TentativeView}
use Rattle.ready_work.specs.ReadyWork.{IsIndexOf}
use Rattle.lock_transforms.proofs.lemmas.Rooms.{more_room}
use Rattle.lock_journal.proofs.lemmas.Replays.{Extends, sound_extended}
use Rattle.lock_journal.proofs.books.Book.admit_failed.Goals as goal

pub invariant_of-self : goal.invariant_of-self
invariant_of-self c =
    let graph : c.self.inside.tentative.graph ≡ c.args.self.now.graph = ap (λ (l : BookView). l.graph) c.self.view_is ∙ c.in_ok-reserve.ensures.same.graph in
    let same : c.settle.new.self.graph ≡ c.self.inside.tentative.graph = ap (λ (t : TentativeView). t.graph) c.settle.ensures in
    let state : c.settle.new.self.state ≡ c.self.inside.tentative.state = ap (λ (t : TentativeView). t.state) c.settle.ensures in
    let more : Extends c.self.inside (record { tentative = c.settle.new.self; history = c.push_failed.new.self; ready = c.self.inside.ready }) (entry c.args.worker c.args.kind None) = record {
      noted = inl (ap (λ (t : TentativeView). t.made) c.settle.ensures);
      room = more_room c.self.invariant.room same (omega (arith, ap (λ (t : TentativeView). t.room) c.settle.ensures));
      graph = same;
      units = c.push_failed.ensures.units;
      entries = c.push_failed.ensures.entries;
      state = state;
      allowed = record { worker = omega (arith, c.requires.worker_in_range, ap (λ (o : GraphView). o.workers) graph); kind = subst (λ (o : GraphView). IsKindOf o c.args.kind) (sym graph) c.requires.kind; finished = tt };
      fit = c.push_failed.ensures.fit;
      index = subst (λ (o : GraphView). IsIndexOf o c.settle.new.self.state c.self.inside.ready) (sym same)
          (subst (λ (s : StateView). IsIndexOf c.self.inside.tentative.graph s c.self.inside.ready) (sym state) c.self.invariant.index);
    } in
    sound_extended c.self.inside _ _ c.self.invariant more
