use Rattle.std.proofs.Common.{refl, sym, ap, ◌∙◌, subst}
use Rattle.lock_journal.specs.BookView.{BookView}
use Rattle.history_views.specs.Growing.{last_book}
use Rattle.history_views.specs.ShownBooks.{SameHistory}
use Rattle.history_views.proofs.Chains.{last_push}
use Rattle.history_views.proofs.shown_books.show_on.Goals as goal

pub returns-then-show-clause-shown : goal.returns-then-show-clause-shown
returns-then-show-clause-shown g c = λ _.
    let is = ap last_book (c.if-show.ensures.shown refl) ∙ last_push c.args.stage.now.log c.args.book.now in
    subst (λ (b : BookView). SameHistory b c.args.book.now) (sym is) (record { graph = refl; history = refl })
