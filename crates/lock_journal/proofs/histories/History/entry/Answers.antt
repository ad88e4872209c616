use Rattle.std.proofs.Common.{◌≡◌, ◌-◌, ◌≤◌, length, sym, ◌∙◌, ap, arith}
use Rattle.std.specs.Prelude.{slice_get}
use Rattle.lock_journal.specs.HistoryView.{HistoryView}
use Rattle.lock_journal.proofs.Behind.{got_behind}
use Rattle.lock_journal.proofs.histories.History.entry.Goals as goal

pub returns-clause-shown : goal.returns-clause-shown
returns-clause-shown c =
    let behind : length c.self.inside.past ≤ c.args.place = omega (arith, c.requires.kept, ap (λ (h : HistoryView). h.given) c.self.view_is, c.self.invariant.0) in
    let place : c.args.place - length c.self.inside.past ≡ c.args.place - c.before-2.result = omega (arith, c.before-2.ensures.value, c.self.invariant.0) in
    ap (λ (h : HistoryView). slice_get h.entries c.args.place) (sym c.self.view_is)
    ∙ got_behind c.self.inside.past c.self.inside.kept.entries c.args.place behind
    ∙ ap (slice_get c.self.inside.kept.entries) place
    ∙ c.entry.ensures.shown
