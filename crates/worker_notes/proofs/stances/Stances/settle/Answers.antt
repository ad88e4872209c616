use Rattle.std.proofs.Common.{List, refl, subst}
use Rattle.worker_choices.specs.declared.stances.Stance.{Stance}
use Rattle.worker_choices.specs.declared.woken.Woken.TheVariants as woken
use Rattle.worker_notes.specs.Offered.{is_queued_in}
use Rattle.worker_notes.specs.SleepAndWake.{IsWokenBy}
use Rattle.worker_notes.proofs.Sleeping.{nobody_woken}
use Rattle.worker_notes.proofs.stances.Stances.settle.Goals as goal

pub returns-then-not-some_sleep-clause-woken : goal.returns-then-not-some_sleep-clause-woken
returns-then-not-some_sleep-clause-woken c =
    let queued = is_queued_in c.args.queued c.args.book.now in
    subst (λ (xs : List Stance). IsWokenBy c.args.book.now queued xs woken.Nobody) c.note.ensures
    (nobody_woken c.args.book.now queued c.note.new.self (c.some_sleep.ensures c.if-not-some_sleep.true))

pub returns-then-not-some_sleep-clause-quiet : goal.returns-then-not-some_sleep-clause-quiet
returns-then-not-some_sleep-clause-quiet c =
    (nobody_woken c.args.book.now (is_queued_in c.args.queued c.args.book.now) c.note.new.self (c.some_sleep.ensures c.if-not-some_sleep.true)).nobody refl
