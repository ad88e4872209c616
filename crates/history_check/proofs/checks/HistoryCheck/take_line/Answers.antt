use Rattle.std.proofs.Common.{◌≡◌, ◌+◌, ◌^◌, ◌<◌, length, ap, arith, refl, rules, sym, ◌∙◌}
use Rattle.lock_transforms.specs.Entry.{entry}
use Rattle.history_text.specs.HistoryView.{changes_of, entry_with}
use Rattle.history_text.specs.Text.{end_text}
use Rattle.history_check.specs.CheckView.{CheckView}
use Rattle.history_check.proofs.EndLines.{entry_long}
use Rattle.history_check.proofs.Verdicts.{added_there, entry_came, entry_said}
use Rattle.history_check.proofs.checks.HistoryCheck.take_line.Goals as goal

pub returns-in_ok-admit-in-Entry-clause-goes_on : goal.returns-in_ok-admit-in-Entry-clause-goes_on
returns-in_ok-admit-in-Entry-clause-goes_on g c = λ p h is.
    let was : c.args.self.now ≡ c.self.inside.entries = search rules in
    let counted : c.count.result ≡ c.args.self.now.count = c.count.ensures ∙ ap (λ (v : CheckView). v.count) (sym was) in
    let changes = c.changes_of-changes.ensures ∙ ap (changes_of c.in-Entry.head.is_finished) c.deref.ensures.value in
    entry_came c.count.result c.args.line.now (entry_with c.in-Entry.head c.read_line_into.new.changes.items) counted is (entry_said _ _ _ _ c.in-Entry.head c.in-Entry.is c.in_ok-head.ensures)
    (added_there was refl (ap (entry c.in-Entry.head.worker c.in-Entry.head.kind) changes) c.in_ok-admit-in-Entry.ensures.added)

pub returns-in_ok-admit-in-Entry-clause-counted : goal.returns-in_ok-admit-in-Entry-clause-counted
returns-in_ok-admit-in-Entry-clause-counted g c =
    let was : c.args.self.now ≡ c.self.inside.entries = search rules in
    let counted : c.count.result ≡ c.args.self.now.count = c.count.ensures ∙ ap (λ (v : CheckView). v.count) (sym was) in
    let said = entry_said _ _ _ _ c.in-Entry.head c.in-Entry.is c.in_ok-head.ensures in
    let few : c.count.result + 1 < 2 ^ 64 = omega (arith, c.requires, counted) in (
      c.in_ok-admit-in-Entry.ensures.added.count ∙ ap (λ (v : CheckView). v.count + 1) (sym was),
      omega (arith, entry_long c.count.result (entry_with c.in-Entry.head c.read_line_into.new.changes.items) few said.fits, ap length said.spelled, ap (λ n. length (end_text n)) counted),
    )
