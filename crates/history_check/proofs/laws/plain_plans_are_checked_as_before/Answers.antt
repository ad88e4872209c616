use Rattle.std.proofs.Common.{◌↔◌, subst, sym}
use Rattle.lock_journal.specs.Names.{GraphView, Lawful}
use Rattle.lock_journal.specs.PlainPlans.{WasLawful}
use Rattle.history_check.specs.PlainPlans.{graph_before}
use Rattle.history_check.proofs.PlainGraphs.{plain_graph}
use Rattle.history_check.proofs.laws.plain_plans_are_checked_as_before.Goals as goal

pub returns : goal.returns
returns c p workers max_leases parallel es plain below =
    subst (λ (g : GraphView). Lawful g es ↔ WasLawful (graph_before p workers max_leases parallel) es) (sym (plain_graph p workers max_leases parallel plain))
    (c.plain_histories_are_lawful_as_without_all_projects.ensures (graph_before p workers max_leases parallel) es below)
