use Rattle.std.proofs.Common.{◌≡◌, ◌≢◌, subst, arith}
use Rattle.std.specs.Option.{IfNone, IfSome}
use Rattle.std.proofs.lemmas.Option.{IfSome_then}
use Rattle.ready_work.specs.LockOrderView.{lock_at}
use Rattle.ready_work.specs.Lowest.{IsLowest, IsNone}
use Rattle.ready_work.specs.StartableTasks.{startable_tasks_view}
use Rattle.ready_work.specs.StartableTasksView.{StartableTasksView, IsUnownedBut}
use Rattle.ready_work.proofs.Heads.{first_other, head_within, no_other, no_second, second_other}
use Rattle.ready_work.proofs.Sets.{if_none, none_then}
use Rattle.ready_work.proofs.startable_tasks.StartableTasks.first_but.Goals as goal

pub returns-in_err-first-clause-none : goal.returns-in_err-first-clause-none
returns-in_err-first-clause-none c = if_none (IsNone (IsUnownedBut c.args.self.now c.args.lock)) c.from_residual.result
    (subst (λ (all : StartableTasksView). IsNone (IsUnownedBut all c.args.lock)) c.self.view_is
    (no_other (startable_tasks_view c.self.inside) c.self.inside.heads c.args.lock c.self.invariant.heads c.in_err-first.ensures.none))

pub lock-requires : goal.lock-requires
lock-requires c = head_within c.self.inside c.in_ok-first.first c.self.invariant c.in_ok-first.ensures.some.is

pub returns-then-lock-clause-some : goal.returns-then-lock-clause-some
returns-then-lock-clause-some c =
    let other : lock_at c.self.inside.order.locks c.in_ok-first.first ≢ c.args.lock = λ e. let at = c.lock.ensures.value in let ne = c.if-lock.true in absurd (omega (arith, e, at, ne)) in
    subst (λ (all : StartableTasksView). IsLowest (IsUnownedBut all c.args.lock) c.in_ok-first.first) c.self.view_is
    (first_other (startable_tasks_view c.self.inside) c.self.inside.heads c.args.lock c.in_ok-first.first c.self.invariant.heads c.in_ok-first.ensures.some other)

pub returns-clause-some : goal.returns-clause-some
returns-clause-some c =
    let same : lock_at c.self.inside.order.locks c.in_ok-first.first ≡ c.args.lock = omega (arith, c.lock.ensures.value, c.if-lock.false) in
    subst (λ (all : StartableTasksView). IfSome c.next_above.result (IsLowest (IsUnownedBut all c.args.lock))) c.self.view_is
    (IfSome_then c.next_above.result c.next_above.ensures.some (λ n low. second_other (startable_tasks_view c.self.inside) c.self.inside.heads c.args.lock c.in_ok-first.first n c.self.invariant.heads c.in_ok-first.ensures.some same low))

pub returns-clause-none : goal.returns-clause-none
returns-clause-none c =
    let same : lock_at c.self.inside.order.locks c.in_ok-first.first ≡ c.args.lock = omega (arith, c.lock.ensures.value, c.if-lock.false) in
    subst (λ (all : StartableTasksView). IfNone c.next_above.result (IsNone (IsUnownedBut all c.args.lock))) c.self.view_is
    (none_then c.next_above.result (no_second (startable_tasks_view c.self.inside) c.self.inside.heads c.args.lock c.in_ok-first.first c.self.invariant.heads c.in_ok-first.ensures.some same) c.next_above.ensures.none)
