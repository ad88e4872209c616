use Rattle.std.proofs.Common.{◌∙◌, Bool, subst, sym}
use Rattle.lock_journal.specs.BookView.{BookView}
use Rattle.worker_notes.specs.Offered.{AnswersWith, WaitsWith}
use Rattle.coordination.proofs.TurnKinds.{stepless_left, stepped_left, undecided_left}
use Rattle.coordination.proofs.slots.decide_on.Goals as goal

pub returns-in_default-clause-left : goal.returns-in_default-clause-left
returns-in_default-clause-left g c =
    let Q = g.Q in
    let X = g.Q.Step.Transform in
    let q = c.args.decision.now in
    let queued = c.args.sleepers.now.queued in
    undecided_left (AnswersWith queued (Q.Question.answers q)) (WaitsWith queued (Q.Question.waits_on q)) (Q.Decision.step_of q) X.kind_of X.makes X.fails_on X.retries_on c.args.worker (g.K.Keeper.book_of c.args.keeper.now) c.args.notes.now.part c.requires.part
    (subst (λ (b : BookView). WaitsWith queued (Q.Question.waits_on q) c.args.worker b) c.book-book.ensures
    (subst (λ (some : Bool). Q.Question.waits_on q some c.args.worker c.book-book.result.now) c.has_some-queued.ensures c.in_default.ensures.waits))

pub returns-in-None-clause-left : goal.returns-in-None-clause-left
returns-in-None-clause-left g c =
    let Q = g.Q in
    let X = g.Q.Step.Transform in
    let q = c.args.decision.now in
    let queued = c.args.sleepers.now.queued in
    stepless_left (AnswersWith queued (Q.Question.answers q)) (WaitsWith queued (Q.Question.waits_on q)) (Q.Decision.step_of q) X.kind_of X.makes X.fails_on X.retries_on c.args.worker (g.K.Keeper.book_of c.args.keeper.now) c.args.notes.now.part c.in-Some.answer c.requires.part
    (subst (λ (b : BookView). AnswersWith queued (Q.Question.answers q) c.args.worker b c.in-Some.answer) c.book-book.ensures
    (subst (λ (some : Bool). Q.Question.answers q some c.args.worker c.book-book.result.now c.in-Some.answer) c.has_some-queued.ensures c.in-Some.ensures.answers)) (sym c.step.ensures.step ∙ c.in-None.is)

pub returns-in-Some-step-clause-left : goal.returns-in-Some-step-clause-left
returns-in-Some-step-clause-left g c =
    let Q = g.Q in
    let X = g.Q.Step.Transform in
    let q = c.args.decision.now in
    let queued = c.args.sleepers.now.queued in
    let run = c.run_on-came in
    stepped_left (AnswersWith queued (Q.Question.answers q)) (WaitsWith queued (Q.Question.waits_on q)) (Q.Decision.step_of q) X.kind_of X.makes X.fails_on X.retries_on c.args.worker (g.K.Keeper.book_of c.args.keeper.now) (g.K.Keeper.book_of run.new.keeper) run.new.notes.part
    c.in-Some.answer c.in-Some-step.step c.args.sleepers.now run.new.sleepers run.result c.carried_out.result
    (subst (λ (b : BookView). AnswersWith queued (Q.Question.answers q) c.args.worker b c.in-Some.answer) c.book-book.ensures
    (subst (λ (some : Bool). Q.Question.answers q some c.args.worker c.book-book.result.now c.in-Some.answer) c.has_some-queued.ensures c.in-Some.ensures.answers)) (sym c.step.ensures.step ∙ c.in-Some-step.is) run.ensures.run c.carried_out.ensures
