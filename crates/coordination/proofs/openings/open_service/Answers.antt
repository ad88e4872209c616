use Rattle.std.proofs.Common.{◌≡◌, ◌∙◌, List, ap, map, subst, sym}
use Rattle.std.specs.List.{All}
use Rattle.lock_journal.specs.Names.{IsAtRest, BookView}
use Rattle.history_views.specs.ShownBooks.{IsTold}
use Rattle.coordination.specs.Names.{PassView, ServiceId, sights_from}
use Rattle.coordination.proofs.openings.open_service.Goals as goal

pub open_slot-requires-clause-rest : goal.open_slot-requires-clause-rest
open_slot-requires-clause-rest g c = subst (λ k. IsAtRest (g.K.Keeper.book_of k).state) (sym c.in_ok-guarded.ensures.keeper) c.requires.rest

pub open_slot-requires-clause-whole : goal.open_slot-requires-clause-whole
open_slot-requires-clause-whole g c = subst (λ k. (g.K.Keeper.book_of k).given ≡ 0) (sym c.in_ok-guarded.ensures.keeper) c.requires.whole

pub open_slot-requires-clause-told : goal.open_slot-requires-clause-told
open_slot-requires-clause-told g c = subst (λ k. IsTold (g.K.Keeper.ledger_of k) c.args.told.now (g.K.Keeper.book_of k)) (sym c.in_ok-guarded.ensures.keeper) c.requires.told

pub returns : goal.returns
returns g c =
    let keeper = c.in_ok-guarded.ensures.keeper in
    let e = c.in_ok-slot.ensures in
    let ps : List PassView = c.in_ok-slot.passes.items in record {
      book = c.service_of-service.ensures.book ∙ (e.book ∙ ap g.K.Keeper.book_of keeper);
      ledger = ap (λ (s : ServiceId). s.ledger) c.service_of-service.ensures.service ∙ (e.ledger ∙ ap g.K.Keeper.ledger_of keeper);
      passes = subst (λ (b : BookView). map (λ p. p.sight) ps ≡ sights_from 0 b.graph.workers b) (ap g.K.Keeper.book_of keeper) e.passes;
      service = subst (λ (s : ServiceId). All (λ (p : PassView). p.service ≡ s) ps) (sym c.service_of-service.ensures.service) e.service;
    }
