use Rattle.history_views.specs.Growing.{last_book}
use Rattle.run_watch.proofs.Shown.{later_on, seen_later}
use Rattle.run_watch.proofs.watchers.Watcher.end.Goals as goal

pub returns : goal.returns
returns c =
    let first = last_book c.self.inside.view.log in
    let learnt = last_book c.teach.new.view.log in
    let top = last_book c.look.new.self.log in record {
      top = top;
      later = later_on c.args.pass.now.sight.seen learnt top c.teach.ensures.learnt c.look.ensures.grows;
      entries = c.look.ensures.entries;
      shown = seen_later first top c.self.inside.looks.items (later_on first learnt top c.teach.ensures.grows c.look.ensures.grows) c.self.invariant;
    }
