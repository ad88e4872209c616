use Rattle.std.proofs.Common.{sym, ap, ◌∙◌, subst, true}
use Rattle.coordination.specs.Names.{DecideGives, HadStep, AsTold, WaitsAsTold, TellsOwn}
use Rattle.planned_work.specs.Trying.{DecisionLeaves, had_hold}
use Rattle.planned_work.proofs.Held.{tried_held, wakes_at}
use Rattle.planned_work.proofs.Tried.{tried_leaves, turned_graph}
use Rattle.planned_work.proofs.trying.try_decision.Goals as goal

pub returns-in-Some-clause-graph : goal.returns-in-Some-clause-graph
returns-in-Some-clause-graph g c =
    let Q = g.Q in
    let X = g.Q.Step.Transform in
    let q = c.args.decision.now in
    turned_graph (DecideGives (AsTold TellsOwn (Q.Question.answers q)) (Q.Decision.step_of q) X.kind_of X.makes X.fails_on X.retries_on) (WaitsAsTold TellsOwn (Q.Question.waits_on q)) (HadStep (AsTold TellsOwn (Q.Question.answers q)) (Q.Decision.step_of q))
    c.args.pass.now.sight c.attempt_turn.new.pass.sight c.in-Some.came c.in-Some.ensures.turned

pub returns-in-Some-clause-left : goal.returns-in-Some-clause-left
returns-in-Some-clause-left g c =
    let Q = g.Q in
    let X = g.Q.Step.Transform in
    let q = c.args.decision.now in
    subst (DecisionLeaves (Q.Question.answers q) (Q.Question.waits_on q) (Q.Decision.step_of q) X.kind_of X.makes X.fails_on X.retries_on c.args.pass.now.sight c.attempt_turn.new.pass.sight) (sym c.tried_of.ensures)
    (tried_leaves (Q.Question.answers q) (Q.Question.waits_on q) (Q.Decision.step_of q) X.kind_of X.makes X.fails_on X.retries_on c.args.pass.now.sight c.attempt_turn.new.pass.sight c.in-Some.came c.in-Some.ensures.turned)

pub returns-in-Some-clause-wakes : goal.returns-in-Some-clause-wakes
returns-in-Some-clause-wakes g c =
    wakes_at true (had_hold c.tried_of.result) c.attempt_turn.new.pass.sight (record { first = c.in-Some.first; later = c.in-Some.later }) (tried_held c.in-Some.came ∙ ap had_hold (sym c.tried_of.ensures)) c.in-Some.ensures.ends
