use Rattle.std.proofs.Common.{true, sym, ap, ◌∙◌, subst}
use Rattle.coordination.specs.Turns.{RunGives}
use Rattle.planned_work.specs.Trying.{InBook, RunLeaves, had_hold_run}
use Rattle.planned_work.proofs.Held.{run_held, wakes_at}
use Rattle.planned_work.proofs.Tried.{run_leaves, run_not_failed, turned_graph}
use Rattle.planned_work.proofs.trying.try_run.Goals as goal

pub ran_of-requires : goal.ran_of-requires
ran_of-requires g c =
    let T = g.T.Transform in
    let t = c.args.transform.now in
    run_not_failed (T.kind_of t) (T.makes t) (T.fails_on t) (T.retries_on t) c.args.pass.now.sight c.attempt_turn.new.pass.sight c.in-Some.came c.requires.never_fails c.in-Some.ensures.turned

pub returns-in-Some-clause-graph : goal.returns-in-Some-clause-graph
returns-in-Some-clause-graph g c =
    let T = g.T.Transform in
    let t = c.args.transform.now in
    turned_graph (RunGives (T.kind_of t) (T.makes t) (T.fails_on t)) (InBook (T.retries_on t)) (λ w book. Unit {0}) c.args.pass.now.sight c.attempt_turn.new.pass.sight c.in-Some.came c.in-Some.ensures.turned

pub returns-in-Some-clause-left : goal.returns-in-Some-clause-left
returns-in-Some-clause-left g c =
    let T = g.T.Transform in
    let t = c.args.transform.now in
    let old = c.args.pass.now.sight in
    let new = c.attempt_turn.new.pass.sight in
    let never = run_not_failed (T.kind_of t) (T.makes t) (T.fails_on t) (T.retries_on t) old new c.in-Some.came c.requires.never_fails c.in-Some.ensures.turned in
    subst (RunLeaves (T.kind_of t) (T.makes t) (T.retries_on t) old new) (sym c.ran_of.ensures)
    (run_leaves (T.kind_of t) (T.makes t) (T.fails_on t) (T.retries_on t) old new c.in-Some.came never c.in-Some.ensures.turned)

pub returns-in-Some-clause-wakes : goal.returns-in-Some-clause-wakes
returns-in-Some-clause-wakes g c =
    let T = g.T.Transform in
    let t = c.args.transform.now in
    let new = c.attempt_turn.new.pass.sight in
    let never = run_not_failed (T.kind_of t) (T.makes t) (T.fails_on t) (T.retries_on t) c.args.pass.now.sight new c.in-Some.came c.requires.never_fails c.in-Some.ensures.turned in
    wakes_at true (had_hold_run c.ran_of.result) new (record { first = c.in-Some.first; later = c.in-Some.later }) (run_held c.in-Some.came never ∙ ap had_hold_run (sym c.ran_of.ensures)) c.in-Some.ensures.ends
