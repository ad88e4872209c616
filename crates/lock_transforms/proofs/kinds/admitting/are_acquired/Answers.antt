use Rattle.std.proofs.Common.{sym, ◌∙◌, ap}
use Rattle.lock_transforms.specs.Table.{acquires}
use Rattle.lock_transforms.proofs.Admitting.{acquire_from, unlisted, unmet, unnamed}
use Rattle.lock_transforms.proofs.kinds.admitting.are_acquired.Goals as goal

pub returns-then-not-may_take-clause-refused : goal.returns-then-not-may_take-clause-refused
returns-then-not-may_take-clause-refused c = λ _. unmet (sym c.if-not-may_take.ensures.condition)

pub returns-then-not-acquires-clause-refused : goal.returns-then-not-acquires-clause-refused
returns-then-not-acquires-clause-refused c = λ _. unlisted (sym (c.if-not-acquires.ensures ∙ ap (λ b. acquires 0 b c.args.changes.now) c.is_leased.ensures))

pub returns-clause-acquired : goal.returns-clause-acquired
returns-clause-acquired c = λ e. acquire_from c.args.work.now c.args.changes.now c.if-not-may_take.ensures.sound (sym c.if-not-may_take.ensures.condition)
    (sym (c.if-not-acquires.ensures ∙ ap (λ b. acquires 0 b c.args.changes.now) c.is_leased.ensures)) (sym c.are_within.ensures ∙ e)

pub returns-clause-refused : goal.returns-clause-refused
returns-clause-refused c = λ e. unnamed c.if-not-may_take.ensures.sound.belongs (sym c.are_within.ensures ∙ e)
