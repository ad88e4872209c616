use Rattle.std.proofs.Common.{inl, refl}
use Rattle.coordination.specs.Names.{awaits_if, AreTold}
use Rattle.coordination.proofs.Awake.{decided_awake}
use Rattle.coordination.proofs.TurnKinds.{left_as_told}
use Rattle.coordination.proofs.Woken.{decided_woken}
use Rattle.coordination.proofs.turns.DecideTurn.act.Goals as goal

pub returns-clause-left : goal.returns-clause-left
returns-clause-left g c =
    let Q = g.Q in
    let X = g.Q.Step.Transform in
    let q = c.args.self.now.decision.now in
    let B = g.K.Keeper.book_of in
    let d = c.decide_held-came in
    let h = d.ensures.held in
    left_as_told (AreTold g.O.Offers.tells) (Q.Question.answers q) (Q.Question.waits_on q) (Q.Decision.step_of q) X.kind_of X.makes X.fails_on X.retries_on h.queued (λ book. (c.args.guarded.now.offers, h.told book)) c.args.caller.worker
    (B c.args.guarded.now.keeper) (B d.new.self.keeper) d.new.notes.part d.result.0 h.decided

pub returns-clause-awake : goal.returns-clause-awake
returns-clause-awake g c = λ ne.
    let Q = g.Q in
    let X = g.Q.Step.Transform in
    let q = c.args.self.now.decision.now in
    let B = g.K.Keeper.book_of in
    let d = c.decide_held-came in
    decided_awake (Q.Question.answers q) (Q.Question.waits_on q) (awaits_if c.args.caller.sleeps (Q.Question.awaits q)) (Q.Decision.step_of q) X.kind_of X.makes X.fails_on X.retries_on c.args.caller.worker (g.O.Offers.tells c.args.guarded.now.offers)
    c.args.caller.behind c.args.caller.woken c.args.caller.apart (B c.args.guarded.now.keeper) (B d.new.self.keeper) d.new.notes.part c.args.guarded.now.sleepers d.new.self.sleepers d.result d.ensures.held (λ is. absurd (ne is))

pub returns-clause-ends : goal.returns-clause-ends
returns-clause-ends g c =
    let Q = g.Q in
    let X = g.Q.Step.Transform in
    let q = c.args.self.now.decision.now in
    let B = g.K.Keeper.book_of in
    let d = c.decide_held-came in
    inl (
      c.args.caller.behind,
      inl refl,
      decided_woken g.O.Offers.tells c.args.guarded.now.offers c.args.caller.worker c.args.caller.behind (Q.Question.answers q) (Q.Question.waits_on q) (awaits_if c.args.caller.sleeps (Q.Question.awaits q)) (Q.Decision.step_of q) X.kind_of X.makes X.fails_on X.retries_on
          c.args.caller.woken c.args.caller.apart (B c.args.guarded.now.keeper) (B d.new.self.keeper) d.new.notes.part c.args.guarded.now.sleepers d.new.self.sleepers d.result d.ensures.held,
      refl,
    )
