-- the views so far
use Rattle.std.proofs.Common.{◌≡◌, Some, length}
use Rattle.std.specs.List.{All}
use Rattle.history_views.specs.Growing.{last_book}
use Rattle.history_views.specs.ShownBooks.{SameHistory}
use Rattle.coordination.proofs.shown_services.with_views.Given as goal

abbrev pub invariant-loop : goal.invariant-loop
invariant-loop g l = record {
  same : l.shown ≡ l.initial.shown;
  count : length l.views.items ≡ l.counter;
  ledger : All (λ v. l.shown.ledger ≡ Some v.ledger) l.views.items;
  seen : All (λ v. SameHistory (last_book v.log) l.shown.book) l.views.items;
}
