use Rattle.std.proofs.Common.{ap, sym, ◌∙◌, subst}
use Rattle.resource_lock.specs.declared.ids.WorkerId.{WorkerId}
use Rattle.coordination.specs.Names.{AskedInVain, AreTold, PassView}
use Rattle.coordination.specs.Turns.{OnlyLooked}
use Rattle.coordination.specs.declared.rule.Sight.{Sight}
use Rattle.coordination.specs.declared.turns.Came.TheVariants as came
use Rattle.coordination.proofs.TurnAfterTurn.{again_on, done_on, looked_not, no_memory_on, same_halt, same_worker, stopped_on, turned_at}
use Rattle.coordination.proofs.services.Coordination.take_turn.Goals as goal

pub loop-init : goal.loop-init
loop-init g c =
    let same = c.make_room.ensures in
    (tt, tt, ap (λ (p : PassView). p.service) same, subst (λ (p : PassView). OnlyLooked c.args.pass.now.sight p.sight) (sym same) (looked_not c.args.pass.now.sight))

pub returns-in-Done-clause-done : goal.returns-in-Done-clause-done
returns-in-Done-clause-done g c =
    let T = g.T.Turn in
    let t = c.args.turn.now in
    let h = c.hold-came in
    done_on (T.gives t (AreTold g.O.Offers.tells)) (T.waits_on t (AreTold g.O.Offers.tells)) (T.runs t (AreTold g.O.Offers.tells)) c.args.pass.now.sight c.loop.pass.sight h.new.pass.sight c.loop.invariant.3 c.in-Done.outcome
    (turned_at (T.gives t (AreTold g.O.Offers.tells)) (T.waits_on t (AreTold g.O.Offers.tells)) (T.runs t (AreTold g.O.Offers.tells)) c.loop.pass.sight h.new.pass.sight h.result.0 (came.Done c.in-Done.outcome) c.in-Done.is h.ensures.turned)

pub returns-in-NoMemory-clause-no_memory : goal.returns-in-NoMemory-clause-no_memory
returns-in-NoMemory-clause-no_memory g c = λ is.
    let T = g.T.Turn in
    let t = c.args.turn.now in
    let h = c.hold-came in
    no_memory_on (T.gives t (AreTold g.O.Offers.tells)) (T.waits_on t (AreTold g.O.Offers.tells)) (T.runs t (AreTold g.O.Offers.tells)) c.args.pass.now.sight c.loop.pass.sight h.new.pass.sight c.loop.invariant.3
    (turned_at (T.gives t (AreTold g.O.Offers.tells)) (T.waits_on t (AreTold g.O.Offers.tells)) (T.runs t (AreTold g.O.Offers.tells)) c.loop.pass.sight h.new.pass.sight h.result.0 came.NoMemory c.in-NoMemory.is h.ensures.turned)

pub returns-in-Some-hear-clause-stopped : goal.returns-in-Some-hear-clause-stopped
returns-in-Some-hear-clause-stopped g c = λ by is.
    let T = g.T.Turn in
    let t = c.args.turn.now in
    let h = c.hold-came in
    subst (λ (w : WorkerId). AskedInVain (T.waits_on t (AreTold g.O.Offers.tells)) w c.args.pass.now.sight c.hear.new.pass.sight) (same_halt c.in-Some-hear.by by is)
    (stopped_on (T.gives t (AreTold g.O.Offers.tells)) (T.waits_on t (AreTold g.O.Offers.tells)) (T.runs t (AreTold g.O.Offers.tells)) c.args.pass.now.sight c.loop.pass.sight h.new.pass.sight c.loop.invariant.3 c.in-Some-hear.by c.hear.new.pass.sight
    (turned_at (T.gives t (AreTold g.O.Offers.tells)) (T.waits_on t (AreTold g.O.Offers.tells)) (T.runs t (AreTold g.O.Offers.tells)) c.loop.pass.sight h.new.pass.sight h.result.0 came.Again c.in-Again.is h.ensures.turned) c.in-Some-hear.ensures.stopper c.in-Some-hear.ensures.some)

pub loop-preserved : goal.loop-preserved
loop-preserved g c =
    let T = g.T.Turn in
    let t = c.args.turn.now in
    let h = c.hold-came in (
      tt,
      tt,
      c.hear.ensures.same ∙ (h.ensures.same ∙ c.loop.invariant.2),
      subst (OnlyLooked c.args.pass.now.sight) (sym c.in_default.ensures.none)
          (again_on (T.gives t (AreTold g.O.Offers.tells)) (T.waits_on t (AreTold g.O.Offers.tells)) (T.runs t (AreTold g.O.Offers.tells)) c.args.pass.now.sight c.loop.pass.sight h.new.pass.sight c.loop.invariant.3
          (turned_at (T.gives t (AreTold g.O.Offers.tells)) (T.waits_on t (AreTold g.O.Offers.tells)) (T.runs t (AreTold g.O.Offers.tells)) c.loop.pass.sight h.new.pass.sight h.result.0 came.Again c.in-Again.is h.ensures.turned)),
    )

pub returns-in-Done-clause-worker : goal.returns-in-Done-clause-worker
returns-in-Done-clause-worker g c = let h = c.hold-came in same_worker c.args.pass.now.sight c.loop.pass.sight h.new.pass.sight h.ensures.turned.after c.loop.invariant.3 h.ensures.turned.sight

pub returns-in-NoMemory-clause-worker : goal.returns-in-NoMemory-clause-worker
returns-in-NoMemory-clause-worker g c = let h = c.hold-came in same_worker c.args.pass.now.sight c.loop.pass.sight h.new.pass.sight h.ensures.turned.after c.loop.invariant.3 h.ensures.turned.sight

pub returns-in-Some-hear-clause-worker : goal.returns-in-Some-hear-clause-worker
returns-in-Some-hear-clause-worker g c =
    let h = c.hold-came in
    ap (λ (k : Sight). k.worker) c.in-Some-hear.ensures.some ∙ same_worker c.args.pass.now.sight c.loop.pass.sight h.new.pass.sight h.ensures.turned.after c.loop.invariant.3 h.ensures.turned.sight
