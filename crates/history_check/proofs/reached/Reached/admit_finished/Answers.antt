use Rattle.std.proofs.Common.{◌+◌, Some, refl, subst, inl}
use Rattle.lock_transforms.specs.Entry.{Entry, entry}
use Rattle.history_check.specs.AdmitterView.{AdmitterView, Admits, Refuses}
use Rattle.history_check.specs.Reached.{reached_view}
use Rattle.history_check.proofs.Keeping.{reached_same}
use Rattle.history_check.proofs.reached.Reached.admit_finished.Goals as goal

pub returns-then-not-admit-clause-refused : goal.returns-then-not-admit-clause-refused
returns-then-not-admit-clause-refused c = λ _.
    let e : Entry = entry c.args.worker c.args.kind (Some c.args.changes.now) in
    subst (λ (v : AdmitterView). Refuses v (reached_view c.admit.new.self c.self.inside.entries) e) c.self.view_is (record {
      refused = c.if-not-admit.ensures.refused refl;
      same = reached_same c.self.inside.tentative c.admit.new.self c.self.inside.entries c.if-not-admit.ensures.graph (c.if-not-admit.ensures.undone (inl refl));
    })

pub returns-clause-admitted : goal.returns-clause-admitted
returns-clause-admitted c = λ _.
    let e : Entry = entry c.args.worker c.args.kind (Some c.args.changes.now) in
    subst (λ (v : AdmitterView). Admits v (reached_view c.admit.new.self (c.self.inside.entries + 1)) e) c.self.view_is (record {
      graph = c.if-not-admit.ensures.graph;
      allowed = c.if-not-admit.ensures.allowed refl;
      state = c.if-not-admit.ensures.state refl refl;
      entries = refl;
      kept = refl;
    })
