-- the entry that is shown is the one that was admitted
use Rattle.std.proofs.Common.{Some, ◌∙◌, ap, subst}
use Rattle.lock_journal.specs.Names.{Entry, entry, HasAdmitted, IsRefused}
use Rattle.task_ordering.proofs.Lawfulness.{shown_failed, shown_finished}
use Rattle.task_ordering.proofs.admitting.admit.Goals as goal

pub returns-then-entry-clause-admitted : goal.returns-then-entry-clause-admitted
returns-then-entry-clause-admitted c = λ is. subst (λ (e : Entry). HasAdmitted c.args.book.now c.admit.new.self e) (shown_failed c.args.entry c.if-entry.true) (c.admit.ensures.admitted is)

pub returns-then-entry-clause-refused : goal.returns-then-entry-clause-refused
returns-then-entry-clause-refused c = λ is. subst (λ (e : Entry). IsRefused c.args.book.now c.admit.new.self e) (shown_failed c.args.entry c.if-entry.true) (c.admit.ensures.refused is)

pub returns-clause-admitted : goal.returns-clause-admitted
returns-clause-admitted c = λ is. subst (λ (e : Entry). HasAdmitted c.args.book.now c.admit-2.new.self e)
    (ap (λ cs. entry c.args.entry.worker c.args.entry.kind (Some cs)) (c.as_slice.ensures.value ∙ c.in_ok-list_changes.ensures) ∙ shown_finished c.args.entry c.if-entry.false)
    (c.admit-2.ensures.admitted is)

pub returns-clause-refused : goal.returns-clause-refused
returns-clause-refused c = λ is. subst (λ (e : Entry). IsRefused c.args.book.now c.admit-2.new.self e)
    (ap (λ cs. entry c.args.entry.worker c.args.entry.kind (Some cs)) (c.as_slice.ensures.value ∙ c.in_ok-list_changes.ensures) ∙ shown_finished c.args.entry c.if-entry.false)
    (c.admit-2.ensures.refused is)
