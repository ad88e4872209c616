use Rattle.std.proofs.Common.{◌∙◌, ap}
use Rattle.lock_journal.specs.Names.{HistoryView, last_changes}
use Rattle.lock_journal.proofs.Behind.{last_changes_behind, some_kept}
use Rattle.lock_journal.proofs.histories.History.last_changes.Goals as goal

pub returns : goal.returns
returns c =
    let some = some_kept c.self.inside.past c.self.inside.kept c.args.self.now c.self.view_is c.self.invariant.0 c.requires in
    c.last_changes.ensures
    ∙ last_changes_behind c.self.inside.past c.self.inside.kept.entries some
    ∙ ap (λ (h : HistoryView). last_changes h.entries) c.self.view_is
