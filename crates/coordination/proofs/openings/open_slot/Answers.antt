use Rattle.std.proofs.Common.{◌≡◌, List, ap, map, subst, sym}
use Rattle.history_views.specs.ShownBooks.{IsTold}
use Rattle.coordination.specs.Names.{KeptView, PassView, sights_from}
use Rattle.lock_journal.specs.BookView.{BookView}
use Rattle.coordination.proofs.Closing.{workers_first}
use Rattle.coordination.proofs.FirstSights.{all_saw}
use Rattle.coordination.proofs.openings.open_slot.Goals as goal

-- the first sights, of the book that the service was opened with
first : (ps : List PassView) (opened book : BookView) → opened ≡ book → map (λ p. p.sight) ps ≡ sights_from 0 opened.graph.workers opened → map (λ p. p.sight) ps ≡ sights_from 0 book.graph.workers book
first ps opened book same passes = subst (λ (b : BookView). map (λ p. p.sight) ps ≡ sights_from 0 b.graph.workers b) same passes

pub seated-passes-requires-clause-told : goal.seated-passes-requires-clause-told
seated-passes-requires-clause-told g c = subst (λ (x : KeptView). IsTold x.ledger c.args.told.now x.book) (sym c.in_ok-slot.ensures.kept) c.requires.told

pub returns-clause-workers : goal.returns-clause-workers
returns-clause-workers g c =
    workers_first c.seated-passes.result.items _ (g.K.Keeper.book_of c.args.keeper) (first c.seated-passes.result.items _ (g.K.Keeper.book_of c.args.keeper) (ap (λ (x : KeptView). x.book) c.in_ok-slot.ensures.kept) c.seated-passes.ensures.passes)

pub returns-clause-seen : goal.returns-clause-seen
returns-clause-seen g c =
    all_saw c.seated-passes.result.items _ (g.K.Keeper.book_of c.args.keeper) (first c.seated-passes.result.items _ (g.K.Keeper.book_of c.args.keeper) (ap (λ (x : KeptView). x.book) c.in_ok-slot.ensures.kept) c.seated-passes.ensures.passes)
