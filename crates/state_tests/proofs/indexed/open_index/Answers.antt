use Rattle.std.proofs.Common.{sym, ap, ◌∙◌, subst}
use Rattle.lock_journal.specs.Names.{opening_of, BelongsTo}
use Rattle.resource_lock.proofs.lemmas.Runs.{belongs_opening}
use Rattle.state_tests.specs.declared.indexed.Indexed.{Indexed}
use Rattle.state_tests.proofs.indexed.open_index.Goals as goal

pub returns-clause-belongs : goal.returns-clause-belongs
returns-clause-belongs c =
    let belongs : BelongsTo c.args.graph.value c.in_ok-state.state = subst (BelongsTo c.args.graph.value) (sym (c.in_ok-state.ensures ∙ ap opening_of c.deref.ensures)) (belongs_opening c.args.graph.value) in
    subst (λ (all : Indexed). BelongsTo all.graph.value all.state) (sym c.in_ok-new.ensures.ok) belongs
