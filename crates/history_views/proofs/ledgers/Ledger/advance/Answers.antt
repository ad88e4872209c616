use Rattle.std.proofs.Common.{refl, ap, ◌∙◌}
use Rattle.history_views.specs.Growing.{last_book}
use Rattle.history_views.proofs.Chains.{last_push}
use Rattle.history_views.proofs.ledgers.Ledger.advance.Goals as goal

pub reach_of-requires-clause-last : goal.reach_of-requires-clause-last
reach_of-requires-clause-last c = ap last_book (c.if-not-add.ensures.added refl) ∙ last_push c.again-token.result.log c.args.book.now
