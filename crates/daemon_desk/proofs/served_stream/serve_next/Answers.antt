use Rattle.std.proofs.Common.{◌≡◌, length, refl, rules, sym, subst, ◌∙◌}
use Rattle.daemon_protocol.specs.declared.starts.StreamStart.{StreamStart}
use Rattle.daemon_desk.specs.Answering.{answer_of}
use Rattle.daemon_desk.specs.Taking.{IsTaken}
use Rattle.daemon_desk.proofs.Services.{serving_more, ended, served_end, served_untaken, served_unanswered}
use Rattle.daemon_desk.proofs.served_stream.serve_next.Goals as goal

pub returns-in_err-start-clause-serves : goal.returns-in_err-start-clause-serves
returns-in_err-start-clause-serves g c = λ start serving.
    ended c.args.room c.from_residual.result _ c.from_residual.ensures.1
    (served_untaken c.args.room c.take_frame.new.held.items _ c.in_err-start.ensures serving)

pub returns-in_err-request-clause-serves : goal.returns-in_err-request-clause-serves
returns-in_err-request-clause-serves g c = λ start serving.
    let took = c.in_ok-start.ensures in
    let ends = c.in_err-request.ensures in
    ended c.args.room c.from_residual-in_err-request.result _ c.from_residual-in_err-request.ensures.1
    (served_end c.args.room _ _ _ _ (search rules) serving took.0 took.1 (search rules) refl took.2 ends.0 took.3 ends.1)

pub returns-in_err-answer-clause-serves : goal.returns-in_err-answer-clause-serves
returns-in_err-answer-clause-serves g c = λ start serving.
    let took = c.in_ok-start.ensures in
    let asks = c.in_ok-request.ensures in
    let did = c.in_err-answer.ensures in
    let held = c.take_frame.new.held.items in
    let whole : asks.0 ≡ length held = subst (λ (s : StreamStart). IsTaken s (length held) c.args.room (g.S.Source.seen c.take_frame.new.source).left) asks.1 took.3 in
    ended c.args.room c.from_residual-in_err-answer.result _ c.from_residual-in_err-answer.ensures.1
    (served_unanswered c.args.room asks.0 held c.in_ok-request.request _ did.answers serving took.0 took.1 did.count (sym took.2 ∙ asks.1) whole)

pub returns-clause-serves : goal.returns-clause-serves
returns-clause-serves g c = λ start serving.
    let took = c.in_ok-start.ensures in
    let asks = c.in_ok-request.ensures in
    let did = c.in_ok-answer.ensures in
    let held = c.take_frame.new.held.items in
    let whole : asks.0 ≡ length held = subst (λ (s : StreamStart). IsTaken s (length held) c.args.room (g.S.Source.seen c.take_frame.new.source).left) asks.1 took.3 in
    serving_more c.args.room asks.0 _ held (answer_of c.in_ok-request.request did.answers.0) (search rules) serving took.0 did.count did.files (sym took.2 ∙ asks.1) whole did.answers.1 did.answers.2
