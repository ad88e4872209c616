use Rattle.std.proofs.Common.{◌≡◌, map, None}
use Rattle.clap.specs.Matches.{found_of}
use Rattle.clap.specs.Walk.{rows_of}
use Rattle.command_words.specs.Failing.{NoMemoryOr}
use Rattle.command_words.specs.Make.{make_of, make_of_rows}
use Rattle.command_words.specs.Rules.{make_app}
use Rattle.command_words.proofs.Simple.{answered, asked_by_rows, handed_on, nothing_asked, refused}
use Rattle.command_words.proofs.make.read_make.Goals as goal

pub returns-clause-ok : goal.returns-clause-ok
unfolding make_app
returns-clause-ok c =
    let words = map (λ s. s.now) c.args.words.now in
    let rows = rows_of (found_of c.in_ok-matches.matches) in
    answered (make_of words) (make_of_rows rows) c.make_words.result (asked_by_rows make_app make_of_rows words rows c.in_ok-matches.ensures.ok) c.make_words.ensures.ok

pub returns-clause-err : goal.returns-clause-err
unfolding make_app
returns-clause-err c =
    let words = map (λ s. s.now) c.args.words.now in
    let rows = rows_of (found_of c.in_ok-matches.matches) in
    refused (make_of words) (make_of_rows rows) c.make_words.result (asked_by_rows make_app make_of_rows words rows c.in_ok-matches.ensures.ok) c.make_words.ensures.err

pub returns-in_err-matches-clause-err : goal.returns-in_err-matches-clause-err
unfolding make_app
returns-in_err-matches-clause-err c =
    let words = map (λ s. s.now) c.args.words.now in
    let fail = c.in_err-matches.field-0.0 in
    handed_on (NoMemoryOr (make_of words ≡ None)) c.from_residual.result fail c.from_residual.ensures.1 (nothing_asked make_app make_of_rows words fail c.in_err-matches.ensures.err)
