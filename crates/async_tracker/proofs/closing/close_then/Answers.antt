use Rattle.std.proofs.Common.{Err, Ok, ap, ◌∙◌}
use Rattle.worker_notes.specs.Offered.{AreTold, AsTold, WaitsAsTold}
use Rattle.coordination.specs.declared.halts.Halt.{Halt}
use Rattle.async_tracker.proofs.AfterClosing.{ClosesThen, closed_then, decided_behind, decided_later, err_behind, if_no_memory, if_undecided, ok_behind}
use Rattle.async_tracker.proofs.Claiming.{close_never_waits}
use Rattle.async_tracker.proofs.lemmas.After.{found_again}
use Rattle.async_tracker.proofs.closing.close_then.Goals as goal

pub unreachable-requires-in-Err-Stopped : goal.unreachable-requires-in-Err-Stopped
unreachable-requires-in-Err-Stopped g c =
    let stopped = c.run_then_decide.ensures.stopped c.in-Err-Stopped.field-0-0 (c.in-Err-Stopped.is ∙ ap Err c.in-Err-Stopped.field-0-is) in
    close_never_waits c.args.pass.now.sight stopped.book c.args.closed.unit c.args.closed.outcome stopped.found c.requires.item c.requires.claimed c.requires.lease c.requires.outcome stopped.cause

pub returns-in-Ok-Decided-clause-decided : goal.returns-in-Ok-Decided-clause-decided
returns-in-Ok-Decided-clause-decided g c =
    let Q = g.Q in
    let X = g.Q.Step.Transform in
    let q = c.args.next.now in
    let tells = AreTold g.O.Offers.tells in
    decided_behind (AsTold tells (Q.Question.answers q)) (WaitsAsTold tells (Q.Question.waits_on q)) (Q.Decision.step_of q) X.kind_of X.makes X.fails_on X.retries_on c.args.closed c.args.pass.now.sight
    c.run_then_decide.new.pass.sight c.run_then_decide.result c.in-Ok-Decided.decided (c.in-Ok-Decided.is ∙ ap Ok c.in-Ok-Decided.field-0-is) c.run_then_decide.ensures.followed

pub returns-in-Ok-Undecided-clause-decided : goal.returns-in-Ok-Undecided-clause-decided
returns-in-Ok-Undecided-clause-decided g c =
    let Q = g.Q in
    let X = g.Q.Step.Transform in
    let q = c.args.next.now in
    let tells = AreTold g.O.Offers.tells in
    let closed = if_undecided (AsTold tells (Q.Question.answers q)) (WaitsAsTold tells (Q.Question.waits_on q)) (Q.Decision.step_of q) X.kind_of X.makes X.fails_on X.retries_on c.args.closed c.args.pass.now.sight c.run_then_decide.new.pass.sight c.run_then_decide.result (c.in-Ok-Undecided.is ∙ ap Ok c.in-Ok-Undecided.field-0-is) c.run_then_decide.ensures.followed in
    ok_behind (ClosesThen (AsTold tells (Q.Question.answers q)) (WaitsAsTold tells (Q.Question.waits_on q)) (Q.Decision.step_of q) X.kind_of X.makes X.fails_on X.retries_on c.args.closed c.args.pass.now.sight c.decide.new.pass.sight) c.decide.result c.map_err.result c.map_err.ensures.cases
    (decided_later (AsTold tells (Q.Question.answers q)) (WaitsAsTold tells (Q.Question.waits_on q)) (Q.Decision.step_of q) X.kind_of X.makes X.fails_on X.retries_on c.args.closed c.args.pass.now.sight c.run_then_decide.new.pass.sight c.decide.new.pass.sight c.decide.result closed c.decide.ensures.decided)

pub returns-in-Ok-Undecided-clause-no_memory : goal.returns-in-Ok-Undecided-clause-no_memory
returns-in-Ok-Undecided-clause-no_memory g c = λ is.
    let Q = g.Q in
    let X = g.Q.Step.Transform in
    let q = c.args.next.now in
    let tells = AreTold g.O.Offers.tells in
    let closed = if_undecided (AsTold tells (Q.Question.answers q)) (WaitsAsTold tells (Q.Question.waits_on q)) (Q.Decision.step_of q) X.kind_of X.makes X.fails_on X.retries_on c.args.closed c.args.pass.now.sight c.run_then_decide.new.pass.sight c.run_then_decide.result (c.in-Ok-Undecided.is ∙ ap Ok c.in-Ok-Undecided.field-0-is) c.run_then_decide.ensures.followed in
    closed_then c.args.closed closed.0 (c.decide.ensures.no_memory (err_behind c.decide.result c.map_err.result Halt.NoMemory c.map_err.ensures.cases is))

pub returns-in-Ok-Undecided-clause-stopped : goal.returns-in-Ok-Undecided-clause-stopped
returns-in-Ok-Undecided-clause-stopped g c = λ by is.
    let Q = g.Q in
    let X = g.Q.Step.Transform in
    let q = c.args.next.now in
    let tells = AreTold g.O.Offers.tells in
    let closed = if_undecided (AsTold tells (Q.Question.answers q)) (WaitsAsTold tells (Q.Question.waits_on q)) (Q.Decision.step_of q) X.kind_of X.makes X.fails_on X.retries_on c.args.closed c.args.pass.now.sight c.run_then_decide.new.pass.sight c.run_then_decide.result (c.in-Ok-Undecided.is ∙ ap Ok c.in-Ok-Undecided.field-0-is) c.run_then_decide.ensures.followed in
    closed_then c.args.closed closed.0 (c.decide.ensures.stopped by (err_behind c.decide.result c.map_err.result (Halt.Stopped by) c.map_err.ensures.cases is))

pub returns-in-Ok-NoMemory-clause-no_memory : goal.returns-in-Ok-NoMemory-clause-no_memory
returns-in-Ok-NoMemory-clause-no_memory g c = λ is.
    let Q = g.Q in
    let X = g.Q.Step.Transform in
    let q = c.args.next.now in
    let tells = AreTold g.O.Offers.tells in
    let closed = if_no_memory (AsTold tells (Q.Question.answers q)) (WaitsAsTold tells (Q.Question.waits_on q)) (Q.Decision.step_of q) X.kind_of X.makes X.fails_on X.retries_on c.args.closed c.args.pass.now.sight c.run_then_decide.new.pass.sight c.run_then_decide.result (c.in-Ok-NoMemory.is ∙ ap Ok c.in-Ok-NoMemory.field-0-is) c.run_then_decide.ensures.followed in
    closed_then c.args.closed closed.0 (record { looked = found_again closed.0; step = closed.1 })
