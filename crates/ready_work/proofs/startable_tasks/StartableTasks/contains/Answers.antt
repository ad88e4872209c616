use Rattle.std.proofs.Common.{◌<◌, length, sym, ap, ◌∙◌, arith}
use Rattle.ready_work.specs.NumberSetView.{has}
use Rattle.ready_work.specs.StartableTasksView.{StartableTasksView}
use Rattle.ready_work.proofs.Heads.{member_at, room_tasks}
use Rattle.ready_work.proofs.startable_tasks.StartableTasks.contains.Goals as goal

pub place-requires : goal.place-requires
place-requires c = omega (arith, c.requires, room_tasks c.self.inside c.args.self.now c.self.view_is)

pub returns : goal.returns
returns c =
    let within : c.args.task < length c.self.inside.order.locks = omega (arith, c.requires, room_tasks c.self.inside c.args.self.now c.self.view_is) in
    c.has.ensures ∙ ap (has c.self.inside.places) c.place.ensures.value ∙ sym (member_at c.self.inside.order.locks c.self.inside.places c.args.task within)
    ∙ ap (λ (all : StartableTasksView). has all.tasks c.args.task) c.self.view_is
