use Rattle.std.proofs.Common.{refl}
use Rattle.history_parts.proofs.BookLaws.{head_fits, history_fits}
use Rattle.history_parts.proofs.books.every_book_has_a_text.Goals as goal

pub returns-clause-entries : goal.returns-clause-entries
returns-clause-entries c = history_fits c.args.book.now.graph c.args.book.now.history c.graph.ensures.fits c.state.ensures.lawful c.state.ensures.fit

pub returns-clause-text : goal.returns-clause-text
returns-clause-text c parallel few_workers few_leases = record {
  fits = record {
    head = head_fits c.args.book.now.graph c.graph.ensures.fits few_workers few_leases;
    entries = history_fits c.args.book.now.graph c.args.book.now.history c.graph.ensures.fits c.state.ensures.lawful c.state.ensures.fit;
  };
  is = refl;
}
