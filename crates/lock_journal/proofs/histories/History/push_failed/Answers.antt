use Rattle.std.proofs.Common.{List, [], ◌∷◌, ◌++◌, None, sym, ◌∙◌, ap}
use Rattle.std.proofs.lemmas.List.{append_assoc}
use Rattle.lock_journal.specs.Names.{Entry, entry, HistoryView}
use Rattle.lock_journal.proofs.histories.History.push_failed.Goals as goal

pub returns-clause-entries : goal.returns-clause-entries
returns-clause-entries c =
    let more : List Entry = entry c.args.worker c.args.kind.now None ∷ [] in
    ap (λ es. c.self.inside.past ++ es) c.push_failed.ensures.entries
    ∙ sym (append_assoc c.self.inside.past c.self.inside.kept.entries more)
    ∙ ap (λ (h : HistoryView). h.entries ++ more) c.self.view_is
