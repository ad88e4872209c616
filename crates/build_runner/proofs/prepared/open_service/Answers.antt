use Rattle.std.proofs.Common.{◌≡◌, [], ap, subst, sym, ◌∙◌}
use Rattle.lock_journal.specs.Names.{GraphView, IsAtRest, BookView}
use Rattle.coordination.specs.Sights.{workers_from}
use Rattle.build_runner.proofs.AtFirst.{all_ready, all_untouched}
use Rattle.build_runner.proofs.Begun.{IsBegun}
use Rattle.build_runner.proofs.prepared.open_service.Goals as goal

pub open_with_views-requires-clause-rest : goal.open_with_views-requires-clause-rest
open_with_views-requires-clause-rest g c = subst IsAtRest (sym (ap (λ (b : BookView). b.state) (c.keep_queued.ensures ∙ (c.deref_mut.ensures.value ∙ c.in_ok-book.ensures)) ∙ c.in_ok-open_book.ensures.state)) (c.openings_are_at_rest.ensures _)

pub open_with_views-requires-clause-whole : goal.open_with_views-requires-clause-whole
open_with_views-requires-clause-whole g c = ap (λ (b : BookView). b.given) (c.keep_queued.ensures ∙ (c.deref_mut.ensures.value ∙ c.in_ok-book.ensures)) ∙ c.in_ok-open_book.ensures.whole

pub returns-clause-opened : goal.returns-clause-opened
returns-clause-opened g c =
    let made = c.in_ok-service.field-0 in
    let e = c.in_ok-service.ensures in
    let book : BookView = c.keep_queued.new.self in
    let same = c.keep_queued.ensures ∙ (c.deref_mut.ensures.value ∙ c.in_ok-book.ensures) in
    let graph : book.graph ≡ c.args.graph = ap (λ (b : BookView). b.graph) same ∙ c.in_ok-open_book.ensures.graph in
    let history : book.history ≡ [] = ap (λ (b : BookView). b.history) same ∙ c.in_ok-open_book.ensures.history in
    subst (IsBegun c.args.graph) (sym c.in_ok-boxed.ensures) (record {
      graph = ap (λ (b : BookView). b.graph) e.book ∙ graph;
      passes = e.len ∙ ap (λ (k : GraphView). k.workers) graph;
      ready = all_ready made.service made.passes.items c.args.graph book graph e.service e.seen e.rest;
      untouched = all_untouched made.passes.items book history e.seen;
      workers = e.workers ∙ ap (λ (k : GraphView). workers_from 0 k.workers) graph;
    })
