-- where some are noted, they are those of the last entry
use Rattle.std.proofs.Common.{◌≡◌, ◌==◌, List, [], length, sym, ◌∙◌, ap, subst}
use Rattle.std.proofs.lemmas.Bool.{true≢false}
use Rattle.lock_journal.specs.Names.{Change, AreLastOrNone, BookView, last_changes}
use Rattle.lock_journal.proofs.LastNoted.{last_noted}
use Rattle.lock_journal.proofs.books.Book.last_changes.Goals as goal

pub returns-else-is_empty : goal.returns-else-is_empty
returns-else-is_empty c =
    let noted = subst (λ (cs : List Change). AreLastOrNone cs c.self.inside.history.entries) (sym c.made-made.ensures) c.self.invariant.noted in
    let some : c.made-made.result.now ≡ [] → ⊥ = λ e. true≢false (sym (ap (λ (cs : List Change). length cs == 0) e) ∙ sym c.is_empty.ensures ∙ c.if-is_empty.false) in
    c.given.ensures ∙ last_noted c.made-made.result.now c.self.inside.history.entries noted some ∙ ap (λ (b : BookView). last_changes b.history) c.self.view_is
