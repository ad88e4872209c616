use Rattle.std.proofs.Common.{inl, refl}
use Rattle.coordination.proofs.Awake.{run_awake}
use Rattle.coordination.proofs.TurnKinds.{run_left}
use Rattle.coordination.proofs.Woken.{run_woken}
use Rattle.coordination.proofs.turns.RunTurn.act.Goals as goal

pub returns-clause-left : goal.returns-clause-left
returns-clause-left g c =
    let T = g.T.Transform in
    let t = c.args.self.now.transform.now in
    let B = g.K.Keeper.book_of in
    let h = c.run_held-ran in
    run_left (T.kind_of t) (T.makes t) (T.fails_on t) (T.retries_on t) c.args.caller.worker (B c.args.guarded.now.keeper) (B h.new.self.keeper) h.new.notes.part _ h.ensures.held.left h.result c.came_of.result h.ensures.held.run c.came_of.ensures

pub returns-clause-awake : goal.returns-clause-awake
returns-clause-awake g c = λ ne.
    let T = g.T.Transform in
    let t = c.args.self.now.transform.now in
    let B = g.K.Keeper.book_of in
    let run = c.run_held-ran in
    run_awake (T.kind_of t) (T.makes t) (T.fails_on t) (T.retries_on t) (g.O.Offers.tells c.args.guarded.now.offers) c.args.caller.worker c.args.caller.behind c.args.caller.sleeps (B c.args.guarded.now.keeper) (B run.new.self.keeper) run.new.notes.part c.args.guarded.now.sleepers run.new.self.sleepers run.result run.ensures.held

pub returns-clause-ends : goal.returns-clause-ends
returns-clause-ends g c =
    let T = g.T.Transform in
    let t = c.args.self.now.transform.now in
    let B = g.K.Keeper.book_of in
    let run = c.run_held-ran in
    inl (c.args.caller.behind, inl refl, run_woken g.O.Offers.tells c.args.guarded.now.offers c.args.caller.worker c.args.caller.behind (T.kind_of t) (T.makes t) (T.fails_on t) (T.retries_on t) c.args.caller.sleeps (B c.args.guarded.now.keeper) (B run.new.self.keeper) run.new.notes.part c.args.guarded.now.sleepers run.new.self.sleepers run.result run.ensures.held, refl)
