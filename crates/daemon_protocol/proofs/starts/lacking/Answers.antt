use Rattle.std.proofs.Common.{◌≡◌, ◌≤◌, ◌++◌, length, drop, arith}
use Rattle.daemon_protocol.proofs.Sizes.{body_len, sized, sized_by_head, unfinished}
use Rattle.daemon_protocol.proofs.starts.lacking.Goals as goal

pub returns-then-bytes-lt-HEAD_BYTES-clause-least : goal.returns-then-bytes-lt-HEAD_BYTES-clause-least
returns-then-bytes-lt-HEAD_BYTES-clause-least c = λ more f n whole. let size = (sized (c.args.bytes.now ++ more) f n whole).1 in omega (arith, size)

pub overflow_sub-result-2 : goal.overflow_sub-result-2
overflow_sub-result-2 c =
    let len : c.number_of.result ≡ body_len (drop 1 c.args.bytes.now) = c.number_of.ensures in
    let short = (unfinished c.args.bytes.now (omega (arith, c.if-bytes-lt-HEAD_BYTES.false)) c.requires).0 in
    omega (arith, len, short)

pub returns-clause-some : goal.returns-clause-some
returns-clause-some c =
    let len : c.number_of.result ≡ body_len (drop 1 c.args.bytes.now) = c.number_of.ensures in
    let short = (unfinished c.args.bytes.now (omega (arith, c.if-bytes-lt-HEAD_BYTES.false)) c.requires).0 in
    omega (arith, len, short)

pub returns-clause-least : goal.returns-clause-least
returns-clause-least c = λ more f n whole.
    let len : c.number_of.result ≡ body_len (drop 1 c.args.bytes.now) = c.number_of.ensures in
    let head : 5 ≤ length c.args.bytes.now = omega (arith, c.if-bytes-lt-HEAD_BYTES.false) in
    let short = (unfinished c.args.bytes.now head c.requires).0 in
    let size = sized_by_head c.args.bytes.now more f n head whole in
    omega (arith, len, short, size)

pub returns-clause-few : goal.returns-clause-few
returns-clause-few c =
    let len : c.number_of.result ≡ body_len (drop 1 c.args.bytes.now) = c.number_of.ensures in
    let facts = unfinished c.args.bytes.now (omega (arith, c.if-bytes-lt-HEAD_BYTES.false)) c.requires in
    omega (arith, len, facts.0, facts.1)
