use Rattle.std.proofs.Common.{◌≡◌, ◌∙◌, List, Option, Some, map, subst, sym}
use Rattle.std.specs.List.{All}
use Rattle.logbook.specs.Pages.{Book as Ledger}
use Rattle.lock_journal.specs.Names.{IsAtRest, BookView}
use Rattle.history_views.specs.Growing.{ReachView}
use Rattle.coordination.specs.Names.{PassView, sights_from}
use Rattle.coordination.proofs.Closing.{length_first, workers_first}
use Rattle.coordination.proofs.FirstSights.{all_rest, all_saw}
use Rattle.coordination.proofs.shown_services.Coordination+O+ShownBook+R.open_with_views.Goals as goal

pub open_service-requires-clause-rest : goal.open_service-requires-clause-rest
open_service-requires-clause-rest g c = subst (λ (b : BookView). IsAtRest b.state) (sym c.in_ok-shown.ensures.book) c.requires.rest

pub open_service-requires-clause-whole : goal.open_service-requires-clause-whole
open_service-requires-clause-whole g c = subst (λ (b : BookView). b.given ≡ 0) (sym c.in_ok-shown.ensures.book) c.requires.whole

pub returns : goal.returns
returns g c =
    let book = c.args.book.value in
    let ps : List PassView = c.in_ok-service.passes.items in
    let vs : List ReachView = c.in_ok-shown.views.items in
    let e = c.in_ok-service.ensures in
    let made = c.in_ok-shown.ensures in
    let passes = subst (λ (b : BookView). map (λ p. p.sight) ps ≡ sights_from 0 b.graph.workers b) made.book e.passes in
    let saw = all_saw ps _ book passes in record {
      book = e.book ∙ made.book;
      passes = passes;
      len = length_first ps _ book passes;
      workers = workers_first ps _ book passes;
      service = e.service;
      seen = saw;
      rest = all_rest ps book c.requires.rest saw;
      views = made.len;
      ledger = subst (λ (l : Option Ledger). All (λ (v : ReachView). l ≡ Some v.ledger) vs) (sym e.ledger) made.ledger;
      shown = made.shown;
    }
