use Rattle.std.proofs.Common.{[], ◌++◌, length, sym, subst, ap, ◌∙◌, arith, length-append}
use Rattle.std.proofs.KnownBytes.{Consumes-nil}
use Rattle.file_access.specs.ReadView.{IsAnswer}
use Rattle.file_access.proofs.Answering.{given_too_long, given_whole, is_answer, seen_more}
use Rattle.file_access.proofs.file_actions.act_on_open.Goals as goal

pub pieces-init : goal.pieces-init
pieces-init g c = ([], omega arith, Consumes-nil _, c.new-state.ensures)

pub pieces-preserved : goal.pieces-preserved
pieces-preserved g c =
    let was = c.pieces.invariant in
    let piece = c.as_bytes.result.now in
    let read = c.in_ok-count.ensures in
    let long = ap (λ l. length l) c.as_bytes.ensures in (
      was.0 ++ piece,
      omega (arith, was.1, length-append was.0 piece, long, read.count, read.most),
      seen_more _ _ _ was.0 _ piece c.as_bytes.ensures was.2 read.taken,
      c.add.ensures c.args.action.now was.0 (omega (arith, was.1, long, read.count, read.most)) was.3,
    )

pub returns-then-count-eq0-clause-answer : goal.returns-then-count-eq0-clause-answer
returns-then-count-eq0-clause-answer g c =
    let was = c.pieces.invariant in
    subst IsAnswer (sym (c.outcome.ensures c.args.action.now was.0 was.3)) (is_answer c.args.action.now was.0)

pub returns-then-count-eq0-clause-known : goal.returns-then-count-eq0-clause-known
returns-then-count-eq0-clause-known g c =
    let was = c.pieces.invariant in
    let read = c.in_ok-count.ensures in
    given_whole _ _ _ was.0 _ c.args.action.now c.outcome.result was.2 read.taken (read.count ∙ c.if-count-eq0.true) (read.end c.if-count-eq0.true)
    (omega (arith, was.1, c.pieces-test.true)) (c.outcome.ensures c.args.action.now was.0 was.3)

pub returns-clause-known : goal.returns-clause-known
returns-clause-known g c =
    let was = c.pieces.invariant in
    given_too_long _ _ was.0 c.args.action.now was.2 (omega (arith, was.1, c.pieces-test.false))
