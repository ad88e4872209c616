use Rattle.std.proofs.Common.{◌<◌, length, subst, sym}
use Rattle.lock_journal.specs.Names.{BookView, Kind}
use Rattle.worker_notes.specs.Parts.{Follows, IsPartOf}
use Rattle.worker_choices.specs.GoingOn.{last_lets_go_on}
use Rattle.worker_notes.specs.SleepAndWake.{EndsHold, GoesOn, has_entered, stance_after}
use Rattle.coordination.proofs.TakenBooks.{entry_kept, follows}
use Rattle.coordination.proofs.slots.go_on_by.Goals as goal

pub follow-requires : goal.follow-requires
follow-requires g c =
    let T = g.T.Transform in
    let t = c.args.transform.now in
    let e = c.run_with_room-ran.ensures in
    let B = g.K.Keeper.book_of in
    let r = c.requires.part in
    let old = B c.args.keeper.now in
    let part = c.args.notes.now.part in (
      old,
      subst (λ (p : Kind × BookView). Follows c.args.worker p.0 old p.1 c.run_with_room-ran.result part) (λ i. (sym c.kind-kind.ensures i, sym c.book-book.ensures i))
          (follows (T.kind_of t) (T.makes t) (T.fails_on t) (T.retries_on t) c.args.worker old (B c.run_with_room-ran.new.keeper) c.run_with_room-ran.result part r.sound e.graph e.ran e.given e.within r.kept r.room e.room),
    )

pub go_on_or_end-wakes-requires : goal.go_on_or_end-wakes-requires
go_on_or_end-wakes-requires g c = λ entered.
    let T = g.T.Transform in
    let t = c.args.transform.now in
    let e = c.run_with_room-ran.ensures in
    let B = g.K.Keeper.book_of in
    subst (λ (b : BookView). b.given < length b.history) (sym c.book-book.ensures)
    (entry_kept (T.kind_of t) (T.makes t) (T.fails_on t) (T.retries_on t) c.args.worker (B c.args.keeper.now) (B c.run_with_room-ran.new.keeper) c.run_with_room-ran.result e.ran e.given e.within entered)

pub returns-clause-run : goal.returns-clause-run
returns-clause-run g c =
    let e = c.run_with_room-ran.ensures in
    record {
      graph = e.graph;
      ran = e.ran;
      kept = subst (λ (b : BookView). IsPartOf b c.args.worker c.follow.new.self) c.book-book.ensures c.follow.ensures.part;
      room = c.follow.ensures.room;
      goes = λ is. subst (λ (b : BookView). GoesOn (last_lets_go_on b.history) c.args.sleepers.now c.go_on_or_end-wakes.new.self c.go_on_or_end-wakes.result) c.book-book.ensures (c.go_on_or_end-wakes.ensures.goes is);
      ends = λ ne. subst (λ (p : Kind × BookView). EndsHold p.1 c.args.worker (stance_after c.args.sleepers.now.behind p.0 c.run_with_room-ran.result) (has_entered c.run_with_room-ran.result) c.args.sleepers.now
          c.go_on_or_end-wakes.new.self c.go_on_or_end-wakes.result) (λ i. (c.kind-kind.ensures i, c.book-book.ensures i)) (c.go_on_or_end-wakes.ensures.ends ne);
    }
