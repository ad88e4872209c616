use Rattle.std.proofs.Common.{List, ◌∙◌, ap}
use Rattle.lock_journal.specs.Names.{Entry, outcome_in, HistoryView}
use Rattle.lock_journal.proofs.Behind.{all_kept}
use Rattle.lock_journal.proofs.histories.History.outcome.Goals as goal

pub returns : goal.returns
returns c =
    c.outcome.ensures
    ∙ ap (λ (es : List Entry). outcome_in es c.args.unit)
    (all_kept c.self.inside.past c.self.inside.kept.entries c.self.inside.kept.before c.self.invariant.0 (ap (λ (h : HistoryView). h.given) c.self.view_is ∙ c.requires.whole))
    ∙ ap (λ (h : HistoryView). outcome_in h.entries c.args.unit) c.self.view_is
