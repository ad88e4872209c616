use Rattle.std.proofs.Common.{◌≡◌, sym, subst}
use Rattle.std.proofs.lemmas.Result.{IfOk-weaker}
use Rattle.ready_work.specs.Rank.{Dependencies}
use Rattle.ready_work.specs.Dependents.{AreDependents}
use Rattle.ready_work.proofs.AfterLists.{dependents_from}
use Rattle.ready_work.proofs.dependents.all_dependents.Goals as goal

pub returns : goal.returns
returns c =
    let are = dependents_from c.args.graph.now c.in_ok-dependents.dependents c.in_ok-dependents.ensures in
    IfOk-weaker c.lists.result (λ lists. lists ≡ c.in_ok-dependents.dependents) (λ lists. AreDependents c.args.graph.now lists)
    (λ lists is. subst (λ (all : Dependencies). AreDependents c.args.graph.now all) (sym is) are) c.lists.ensures
