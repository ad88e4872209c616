use Rattle.std.proofs.Common.{◌≡◌, Box, List, Vec, ap, arith, refl}
use Rattle.std.specs.Prelude.{sum_by}
use Rattle.std.specs.declared.alloc.Global.{Global}
use Rattle.lock_journal.specs.BookView.{BookView}
use Rattle.run_watch.specs.declared.boards.Watch.{Watch}
use Rattle.build_runner.specs.Books.{GivesBook}
use Rattle.build_workers.specs.RunDesks.{desks_view}
use Rattle.build_workers.specs.Desks.{DeskView, desk_view}
use Rattle.build_workers.proofs.lemmas.Results.{at_err, if_ok, of_err}
use Rattle.build_runner.proofs.Tallied.{same_sum}
use Rattle.build_runner.proofs.Untouched.{are_back, back_again}
use Rattle.build_runner.proofs.lemmas.Within.{asked_nothing, broken_within, nothing_done, run_within}
use Rattle.build_runner.proofs.runs.run_counted.Goals as goal

-- a book, and what was seen
abbrev Ran : Type 0
Ran = Box BookView Global × Vec Watch Global

pub returns-in_err-pool-clause-back : goal.returns-in_err-pool-clause-back
returns-in_err-pool-clause-back g c = are_back (desk_view g.D.Files.files g.D.Files.faults g.D.Desk.sends g.D.Desk.sent) c.args.input.now.options.now.workers c.args.desks.now.items

pub returns-in_err-pool-clause-broken_off : goal.returns-in_err-pool-clause-broken_off
returns-in_err-pool-clause-broken_off g c = λ d. at_err _ (nothing_done c.args.input.now.plan.now c.args.input.now.options.now (desks_view (desk_view g.D.Files.files g.D.Files.faults g.D.Desk.sends g.D.Desk.sent) c.args.desks.now.items d))

pub returns-in_err-book-clause-back : goal.returns-in_err-book-clause-back
returns-in_err-book-clause-back g c =
    back_again (desk_view g.D.Files.files g.D.Files.faults g.D.Desk.sends g.D.Desk.sent) c.args.input.now.options.now.workers c.args.desks.now.items c.run_book-ran.new.desks.items c.close_pool-events.new.desks.items c.requires.some_worker
    c.run_book-ran.ensures.leaves.back c.close_pool-events.ensures.places c.close_pool-events.ensures.desks c.close_pool-events.ensures.rest

pub returns-in_err-book-clause-broken_off : goal.returns-in_err-book-clause-broken_off
returns-in_err-book-clause-broken_off g c = λ d.
    let view : g.row.D.Denot → DeskView = (desk_view g.D.Files.files g.D.Files.faults g.D.Desk.sends g.D.Desk.sent) in
    let plan = c.args.input.now.plan.now in
    let options = c.args.input.now.options.now in
    let before = desks_view view c.args.desks.now.items d in
    let worked = desks_view view c.run_book-ran.new.desks.items d in
    at_err _ (broken_within plan options before before worked (desks_view view c.close_pool-events.new.desks.items d) (λ i. asked_nothing refl) (λ i. asked_nothing (c.close_pool-events.ensures.desks i d))
    (of_err c.run_book-ran.result _ c.in_err-book.was (c.run_book-ran.ensures.broken_off d)))

pub returns-clause-back : goal.returns-clause-back
returns-clause-back g c =
    back_again (desk_view g.D.Files.files g.D.Files.faults g.D.Desk.sends g.D.Desk.sent) c.args.input.now.options.now.workers c.args.desks.now.items c.run_book-ran.new.desks.items c.close_pool-events.new.desks.items c.requires.some_worker
    c.run_book-ran.ensures.leaves.back c.close_pool-events.ensures.places c.close_pool-events.ensures.desks c.close_pool-events.ensures.rest

pub returns-clause-run : goal.returns-clause-run
returns-clause-run g c =
    let D : Type 0 = g.row.D.Denot in
    let view : D → DeskView = (desk_view g.D.Files.files g.D.Files.faults g.D.Desk.sends g.D.Desk.sent) in
    let plan = c.args.input.now.plan.now in
    let options = c.args.input.now.options.now in
    let old : List D = c.args.desks.now.items in
    let worked : List D = c.run_book-ran.new.desks.items in
    let left : List D = c.close_pool-events.new.desks.items in
    let closed = c.close_pool-events.ensures in
    let start = c.new-pool.result.1 in
    let first = c.new-pool.ensures.tallies in
    let given = if_ok (λ (ran : Ran). GivesBook view plan options old worked start c.run_book-ran.new.tallies ran.0.value ran.1.items) c.run_book-ran.result (c.in_ok-book.book, c.in_ok-book.watch) c.in_ok-book.was c.run_book-ran.ensures.run in
    record {
      run = λ d. run_within plan options (desks_view view old d) (desks_view view old d) (desks_view view worked d) (desks_view view left d) (λ i. asked_nothing refl) (λ i. asked_nothing (closed.desks i d)) c.in_ok-book.book.value (given.run d);
      watch = given.watch;
      legal = closed.legal;
      none_idle = closed.none_idle;
      reserved =
          let same : sum_by (λ (x : D). (view x).sent.count) left ≡ sum_by (λ (x : D). (view x).sent.count) worked = same_sum (λ (x : D). (view x).sent.count) worked left closed.places (λ i d. ap (λ (v : DeskView). v.sent.count) (closed.desks i d)) in
          omega (arith, same, c.run_book-ran.ensures.leaves.reserved, closed.reserved, ap (λ t. t.reserved) first);
      failed = omega (arith, given.failed, closed.failed, ap (λ t. t.failed) first);
    }
