use Rattle.std.proofs.Common.{inl, inr, rules}
use Rattle.worker_notes.specs.Offered.{AreTold, AsTold, WaitsAsTold}
use Rattle.coordination.proofs.lemmas.Shown.{looked_shows, stopped_for, stopped_shows}
use Rattle.async_tracker.proofs.AfterEnding.{decided_behind, decided_later, ended_then, if_no_memory, if_undecided, kept_later}
use Rattle.async_tracker.proofs.TaskSteps.{cannot_end, ended_shows}
use Rattle.async_tracker.proofs.lemmas.After.{found_again, halted, on_err}
use Rattle.async_tracker.proofs.ending.end_then.Goals as goal

pub returns-in_err-run_then_decide-clause-kept : goal.returns-in_err-run_then_decide-clause-kept
returns-in_err-run_then_decide-clause-kept g c =
    let e = c.run_then_decide.ensures in
    on_err c.from_residual.result (inl (halted c.run_then_decide.result c.in_err-run_then_decide.field-0.0 c.in_err-run_then_decide.was (λ is. looked_shows (e.no_memory is)) (λ by is. stopped_shows (e.stopped by is))))

pub returns-in_err-run_then_decide-clause-stopped : goal.returns-in_err-run_then_decide-clause-stopped
returns-in_err-run_then_decide-clause-stopped g c = λ by is.
    let stopped = c.run_then_decide.ensures.stopped by (search rules) in
    inl (stopped_for stopped (cannot_end c.args.pass.now.sight stopped.book c.args.task stopped.found c.requires.in_range c.requires.may stopped.cause))

-- the task's end was made, and nothing was decided in that hold
pub returns-in-Undecided-clause-decided : goal.returns-in-Undecided-clause-decided
returns-in-Undecided-clause-decided g c =
    let Q = g.Q in
    let X = g.Q.Step.Transform in
    let q = c.args.next.now in
    let tells = AreTold g.O.Offers.tells in
    let ended = if_undecided (AsTold tells (Q.Question.answers q)) (WaitsAsTold tells (Q.Question.waits_on q)) (Q.Decision.step_of q) X.kind_of X.makes X.fails_on X.retries_on c.args.task c.args.pass.now.sight c.run_then_decide.new.pass.sight
    c.run_then_decide.result c.in_ok-run_then_decide.field-0 c.in_ok-run_then_decide.was c.in-Undecided.is c.run_then_decide.ensures.followed in
    decided_later (AsTold tells (Q.Question.answers q)) (WaitsAsTold tells (Q.Question.waits_on q)) (Q.Decision.step_of q) X.kind_of X.makes X.fails_on X.retries_on c.args.task c.args.pass.now.sight c.run_then_decide.new.pass.sight c.decide.new.pass.sight
    c.decide.result ended c.decide.ensures.decided

pub returns-in-Undecided-clause-kept : goal.returns-in-Undecided-clause-kept
returns-in-Undecided-clause-kept g c =
    let Q = g.Q in
    let X = g.Q.Step.Transform in
    let q = c.args.next.now in
    let tells = AreTold g.O.Offers.tells in
    let ended = if_undecided (AsTold tells (Q.Question.answers q)) (WaitsAsTold tells (Q.Question.waits_on q)) (Q.Decision.step_of q) X.kind_of X.makes X.fails_on X.retries_on c.args.task c.args.pass.now.sight c.run_then_decide.new.pass.sight
    c.run_then_decide.result c.in_ok-run_then_decide.field-0 c.in_ok-run_then_decide.was c.in-Undecided.is c.run_then_decide.ensures.followed in
    kept_later (AsTold tells (Q.Question.answers q)) (WaitsAsTold tells (Q.Question.waits_on q)) (Q.Decision.step_of q) X.kind_of X.makes X.fails_on X.retries_on c.args.task c.args.pass.now.sight c.run_then_decide.new.pass.sight c.decide.new.pass.sight
    c.decide.result ended.0 c.decide.ensures.no_memory c.decide.ensures.stopped

pub returns-in-Undecided-clause-no_memory : goal.returns-in-Undecided-clause-no_memory
returns-in-Undecided-clause-no_memory g c = λ is.
    let Q = g.Q in
    let X = g.Q.Step.Transform in
    let q = c.args.next.now in
    let tells = AreTold g.O.Offers.tells in
    let ended = if_undecided (AsTold tells (Q.Question.answers q)) (WaitsAsTold tells (Q.Question.waits_on q)) (Q.Decision.step_of q) X.kind_of X.makes X.fails_on X.retries_on c.args.task c.args.pass.now.sight c.run_then_decide.new.pass.sight
    c.run_then_decide.result c.in_ok-run_then_decide.field-0 c.in_ok-run_then_decide.was c.in-Undecided.is c.run_then_decide.ensures.followed in
    inr (ended_then ended.0 (c.decide.ensures.no_memory is))

pub returns-in-Undecided-clause-stopped : goal.returns-in-Undecided-clause-stopped
returns-in-Undecided-clause-stopped g c = λ by is.
    let Q = g.Q in
    let X = g.Q.Step.Transform in
    let q = c.args.next.now in
    let tells = AreTold g.O.Offers.tells in
    let ended = if_undecided (AsTold tells (Q.Question.answers q)) (WaitsAsTold tells (Q.Question.waits_on q)) (Q.Decision.step_of q) X.kind_of X.makes X.fails_on X.retries_on c.args.task c.args.pass.now.sight c.run_then_decide.new.pass.sight
    c.run_then_decide.result c.in_ok-run_then_decide.field-0 c.in_ok-run_then_decide.was c.in-Undecided.is c.run_then_decide.ensures.followed in
    inr (ended_then ended.0 (c.decide.ensures.stopped by is))

pub returns-in-NoMemory-clause-kept : goal.returns-in-NoMemory-clause-kept
returns-in-NoMemory-clause-kept g c =
    let Q = g.Q in
    let X = g.Q.Step.Transform in
    let q = c.args.next.now in
    let tells = AreTold g.O.Offers.tells in
    let ended = if_no_memory (AsTold tells (Q.Question.answers q)) (WaitsAsTold tells (Q.Question.waits_on q)) (Q.Decision.step_of q) X.kind_of X.makes X.fails_on X.retries_on c.args.task c.args.pass.now.sight c.run_then_decide.new.pass.sight
    c.run_then_decide.result c.in_ok-run_then_decide.field-0 c.in_ok-run_then_decide.was c.in-NoMemory.is c.run_then_decide.ensures.followed in
    inr (ended_shows ended.0)

pub returns-in-NoMemory-clause-no_memory : goal.returns-in-NoMemory-clause-no_memory
returns-in-NoMemory-clause-no_memory g c = λ is.
    let Q = g.Q in
    let X = g.Q.Step.Transform in
    let q = c.args.next.now in
    let tells = AreTold g.O.Offers.tells in
    let ended = if_no_memory (AsTold tells (Q.Question.answers q)) (WaitsAsTold tells (Q.Question.waits_on q)) (Q.Decision.step_of q) X.kind_of X.makes X.fails_on X.retries_on c.args.task c.args.pass.now.sight c.run_then_decide.new.pass.sight
    c.run_then_decide.result c.in_ok-run_then_decide.field-0 c.in_ok-run_then_decide.was c.in-NoMemory.is c.run_then_decide.ensures.followed in
    inr (ended_then ended.0 (record { looked = found_again ended.0; step = ended.1 }))

pub returns-in-Decided-clause-decided : goal.returns-in-Decided-clause-decided
returns-in-Decided-clause-decided g c =
    let Q = g.Q in
    let X = g.Q.Step.Transform in
    let q = c.args.next.now in
    let tells = AreTold g.O.Offers.tells in
    decided_behind (AsTold tells (Q.Question.answers q)) (WaitsAsTold tells (Q.Question.waits_on q)) (Q.Decision.step_of q) X.kind_of X.makes X.fails_on X.retries_on c.args.task c.args.pass.now.sight c.run_then_decide.new.pass.sight
    c.run_then_decide.result c.in_ok-run_then_decide.field-0 c.in-Decided.decided c.in_ok-run_then_decide.was c.in-Decided.is c.run_then_decide.ensures.followed
