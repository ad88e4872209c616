use Rattle.std.proofs.Common.{sym, subst}
use Rattle.lock_journal.specs.Names.{Fits, Lawful, replay, BookView, HasEnded}
use Rattle.std.proofs.Common.{◌≡◌, refl, length}
use Rattle.planned_work.proofs.PlanRuns.{below, ended_in, in_range, ranked_in, ranks_of}
use Rattle.planned_work.proofs.closing.close_plan.Goals as goal

pub returns-clause-run : goal.returns-clause-run
returns-clause-run c = λ seen.
    let ps = c.args.passes.items in
    let b : BookView = c.take_away-book.result.value in
    let told = c.deref-3.ensures in
    let lawful : Lawful b.graph b.history = subst (λ (k : BookView). Lawful k.graph k.history) told c.state.ensures.lawful in
    let replays : b.state ≡ replay b.graph b.history = subst (λ (k : BookView). k.state ≡ replay k.graph k.history) told c.state.ensures.replays in
    let fits : Fits b.graph = subst (λ (k : BookView). Fits k.graph) c.deref-2.ensures c.graph.ensures.fits in
    let every = c.every_run_comes_to_its_plan.ensures in
    let ended = ended_in ps b.graph b c.take_away-book.ensures.closed seen lawful c.histories_go_on.ensures.ended in
    let ranked = ranked_in ps b.graph b c.take_away-book.ensures.closed c.requires.some c.requires.ranked in
    let numbering = c.ranks_give_a_numbering.ensures _ (in_range b.graph fits) ranked in
    record {
      graph = refl;
      lawful = lawful;
      replays = replays;
      always_good = λ front later parts. c.lawful_histories_lead_to_good_states.ensures.good b.graph front (c.histories_go_on.ensures.front b.graph front later (subst (Lawful b.graph) parts lawful));
      ended = subst HasEnded (sym replays) (every.ended b.graph b.history fits lawful ended);
      order = every.order b.graph b.history fits lawful ended;
      results = λ v given. every.plan b.graph b.history v numbering.0 (length b.graph.tasks) fits (ranks_of b.graph fits numbering.0 numbering.1) (below b.graph fits numbering.0 numbering.1) lawful ended given;
    }
