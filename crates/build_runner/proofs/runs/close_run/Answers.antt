use Rattle.std.proofs.Common.{ap, sym, subst, ◌∙◌}
use Rattle.std.specs.Prelude.{IfSome}
use Rattle.lock_journal.specs.Names.{GraphView, BookView}
use Rattle.run_watch.specs.Watches.{AreWatchesOf}
use Rattle.build_runner.specs.Watching.{IsSeenBy}
use Rattle.build_runner.proofs.Watched.{board_is_seen, run_is_watched}
use Rattle.build_runner.proofs.runs.close_run.Goals as goal

pub watches_of-watch-requires-clause-seen : goal.watches_of-watch-requires-clause-seen
watches_of-watch-requires-clause-seen g c =
    let closed = c.close_service-book.ensures in
    let book : BookView = c.close_service-book.result.value in
    let opened = c.args.opened.value in
    let watched = c.requires.watched in
    let units = ap (λ (k : GraphView). k.units) (c.requires.graph ∙ sym closed.graph) in
    subst (λ (b : BookView). IfSome c.args.board (IsSeenBy b)) (sym c.deref.ensures)
    (board_is_seen c.args.options.now opened.passes.items watched.0 c.args.board book opened.service.book.graph.units watched.1 units watched.2 closed.later)

pub returns-then-ended-clause-run : goal.returns-then-ended-clause-run
returns-then-ended-clause-run g c =
    let closed = c.close_service-book.ensures in
    let book : BookView = c.close_service-book.result.value in
    let opened = c.args.opened.value in
    let watched = c.requires.watched in
    let watches = c.watches_of-watch.ensures in record {
      ended = c.if-ended.true;
      run = closed.run;
      watch = run_is_watched c.args.options.now opened.passes.items watched.0 c.args.board book c.watches_of-watch.result.items opened.service.book.graph.units watched.1 watched.2
          (subst (λ (b : BookView). IfSome c.args.board (λ _. AreWatchesOf b c.watches_of-watch.result.items)) c.deref.ensures watches.some) watches.none;
      closings = closed.closings;
    }
