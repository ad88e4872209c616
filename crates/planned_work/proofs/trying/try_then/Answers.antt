use Rattle.std.proofs.Common.{sym, ap, ◌∙◌, subst, true}
use Rattle.coordination.specs.Names.{AsTold, WaitsAsTold, TellsOwn, FollowGives}
use Rattle.planned_work.specs.Trying.{FollowLeaves, InBook, had_hold_behind}
use Rattle.planned_work.proofs.Held.{behind_held, wakes_at}
use Rattle.planned_work.proofs.Tried.{behind_leaves, never_failed, turned_graph}
use Rattle.planned_work.proofs.trying.try_then.Goals as goal

pub behind_of-requires : goal.behind_of-requires
behind_of-requires g c =
    let T = g.T.Transform in
    let t = c.args.transform.now in
    let Q = g.Q in
    let X = g.Q.Step.Transform in
    let q = c.args.decision.now in
    never_failed (Q.Question.answers q) (Q.Question.waits_on q) (Q.Decision.step_of q) X.kind_of X.makes X.fails_on X.retries_on c.args.pass.now.sight c.attempt_turn.new.pass.sight (T.kind_of t) (T.makes t) (T.fails_on t) (T.retries_on t)
    c.in-Some.came c.requires.never_fails c.in-Some.ensures.turned

pub returns-in-Some-clause-graph : goal.returns-in-Some-clause-graph
returns-in-Some-clause-graph g c =
    let T = g.T.Transform in
    let t = c.args.transform.now in
    let Q = g.Q in
    let X = g.Q.Step.Transform in
    let q = c.args.decision.now in
    turned_graph (FollowGives (AsTold TellsOwn (Q.Question.answers q)) (WaitsAsTold TellsOwn (Q.Question.waits_on q)) (Q.Decision.step_of q) X.kind_of X.makes X.fails_on X.retries_on (T.kind_of t) (T.makes t) (T.fails_on t)) (InBook (T.retries_on t)) (λ w book. Unit {0})
    c.args.pass.now.sight c.attempt_turn.new.pass.sight c.in-Some.came c.in-Some.ensures.turned

pub returns-in-Some-clause-left : goal.returns-in-Some-clause-left
returns-in-Some-clause-left g c =
    let T = g.T.Transform in
    let t = c.args.transform.now in
    let Q = g.Q in
    let X = g.Q.Step.Transform in
    let q = c.args.decision.now in
    let old = c.args.pass.now.sight in
    let new = c.attempt_turn.new.pass.sight in
    let never = never_failed (Q.Question.answers q) (Q.Question.waits_on q) (Q.Decision.step_of q) X.kind_of X.makes X.fails_on X.retries_on old new (T.kind_of t) (T.makes t) (T.fails_on t) (T.retries_on t)
    c.in-Some.came c.requires.never_fails c.in-Some.ensures.turned in
    subst (FollowLeaves (Q.Question.answers q) (Q.Question.waits_on q) (Q.Decision.step_of q) X.kind_of X.makes X.fails_on X.retries_on (T.kind_of t) (T.makes t) (T.retries_on t) old new) (sym c.behind_of.ensures)
    (behind_leaves (Q.Question.answers q) (Q.Question.waits_on q) (Q.Decision.step_of q) X.kind_of X.makes X.fails_on X.retries_on old new (T.kind_of t) (T.makes t) (T.fails_on t) (T.retries_on t)
    c.in-Some.came never c.in-Some.ensures.turned)

pub returns-in-Some-clause-wakes : goal.returns-in-Some-clause-wakes
returns-in-Some-clause-wakes g c =
    let T = g.T.Transform in
    let t = c.args.transform.now in
    let Q = g.Q in
    let X = g.Q.Step.Transform in
    let q = c.args.decision.now in
    let new = c.attempt_turn.new.pass.sight in
    let never = never_failed (Q.Question.answers q) (Q.Question.waits_on q) (Q.Decision.step_of q) X.kind_of X.makes X.fails_on X.retries_on c.args.pass.now.sight new (T.kind_of t) (T.makes t) (T.fails_on t) (T.retries_on t)
    c.in-Some.came c.requires.never_fails c.in-Some.ensures.turned in
    wakes_at true (had_hold_behind c.behind_of.result) new (record { first = c.in-Some.first; later = c.in-Some.later }) (behind_held c.in-Some.came never ∙ ap had_hold_behind (sym c.behind_of.ensures)) c.in-Some.ensures.ends
