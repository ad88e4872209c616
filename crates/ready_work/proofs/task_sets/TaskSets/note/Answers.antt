use Rattle.std.proofs.Common.{◌≡◌, Bool, true, not, length, ap, subst, ◌∙◌}
use Rattle.std.proofs.lemmas.Bool.{true≢false}
use Rattle.resource_lock.specs.Marks.{has_fallen, has_passed}
use Rattle.ready_work.specs.DependencyCounts.{PutsCount}
use Rattle.ready_work.proofs.TaskLooks.{noted_all, noted_alone, room_after, room_put, same_for_known, seen_or_same}
use Rattle.ready_work.proofs.task_sets.TaskSets.note.Goals as goal

pub look_at-requires-clause-room : goal.look_at-requires-clause-room
look_at-requires-clause-room c = room_put (length c.args.state.now.tasks) c.args.dependents.now c.args.task c.args.self.now c.put-passes.new.self c.put-falls.new.self (not c.has_passed-has_passed.result) c.has_fallen.result c.put-passes.ensures.put c.put-falls.ensures.put c.requires.room

pub look_at_all-requires-clause-room : goal.look_at_all-requires-clause-room
look_at_all-requires-clause-room c = room_after (length c.args.state.now.tasks) c.args.state.now (λ k. k ≡ c.args.task) _ c.look_at.new.self c.look_at.ensures.tasks
    (room_put (length c.args.state.now.tasks) c.args.dependents.now c.args.task c.args.self.now c.put-passes.new.self c.put-falls.new.self (not c.has_passed-has_passed.result) c.has_fallen.result c.put-passes.ensures.put c.put-falls.ensures.put c.requires.room)

pub look_at_all-requires-then-passes-clause-room : goal.look_at_all-requires-then-passes-clause-room
look_at_all-requires-then-passes-clause-room c = room_after (length c.args.state.now.tasks) c.args.state.now (λ k. k ≡ c.args.task) _ c.look_at.new.self c.look_at.ensures.tasks
    (room_put (length c.args.state.now.tasks) c.args.dependents.now c.args.task c.args.self.now c.put-passes.new.self c.put-falls.new.self (not c.has_passed-has_passed.result) c.has_fallen.result c.put-passes.ensures.put c.put-falls.ensures.put c.requires.room)

pub returns-then-falls-clause-notes : goal.returns-then-falls-clause-notes
returns-then-falls-clause-notes c =
    let row = c.args.dependents.now in
    let old = c.args.self.now in
    noted_all c.args.state.now row c.args.task true old c.put-passes.new.self c.put-falls.new.self c.look_at.new.self c.look_at_all.new.self
    (subst (λ (b : Bool). PutsCount row c.args.task (not b) old.unpassed c.put-passes.new.self) (c.has_passed-has_passed.ensures ∙ ap has_passed c.mark-mark.ensures) c.put-passes.ensures.put)
    (subst (λ (b : Bool). PutsCount row c.args.task b old.fallen c.put-falls.new.self) (c.has_fallen.ensures ∙ ap has_fallen c.mark-mark.ensures) c.put-falls.ensures.put)
    (seen_or_same row c.args.task old c.put-passes.new.self c.put-falls.new.self (not c.has_passed-has_passed.result) c.has_fallen.result true c.put-passes.ensures.put c.put-falls.ensures.put (λ e. absurd (true≢false e)))
    c.look_at.ensures.tasks c.look_at_all.ensures.tasks

pub returns-then-passes-clause-notes : goal.returns-then-passes-clause-notes
returns-then-passes-clause-notes c =
    let row = c.args.dependents.now in
    let old = c.args.self.now in
    noted_all c.args.state.now row c.args.task (not c.has_passed-has_passed.result) old c.put-passes.new.self c.put-falls.new.self c.look_at.new.self c.look_at_all-then-passes.new.self
    (subst (λ (b : Bool). PutsCount row c.args.task (not b) old.unpassed c.put-passes.new.self) (c.has_passed-has_passed.ensures ∙ ap has_passed c.mark-mark.ensures) c.put-passes.ensures.put)
    (subst (λ (b : Bool). PutsCount row c.args.task b old.fallen c.put-falls.new.self) (c.has_fallen.ensures ∙ ap has_fallen c.mark-mark.ensures) c.put-falls.ensures.put)
    (seen_or_same row c.args.task old c.put-passes.new.self c.put-falls.new.self (not c.has_passed-has_passed.result) c.has_fallen.result (not c.has_passed-has_passed.result) c.put-passes.ensures.put c.put-falls.ensures.put (λ e. (c.put-falls.ensures.known c.if-falls.false, e)))
    c.look_at.ensures.tasks c.look_at_all-then-passes.ensures.tasks

pub returns-else-passes-clause-notes : goal.returns-else-passes-clause-notes
returns-else-passes-clause-notes c =
    let row = c.args.dependents.now in
    let old = c.args.self.now in
    noted_alone c.args.state.now row c.args.task old c.put-passes.new.self c.put-falls.new.self c.look_at.new.self
    (subst (λ (b : Bool). PutsCount row c.args.task (not b) old.unpassed c.put-passes.new.self) (c.has_passed-has_passed.ensures ∙ ap has_passed c.mark-mark.ensures) c.put-passes.ensures.put)
    (subst (λ (b : Bool). PutsCount row c.args.task b old.fallen c.put-falls.new.self) (c.has_fallen.ensures ∙ ap has_fallen c.mark-mark.ensures) c.put-falls.ensures.put)
    (same_for_known row c.args.task old c.put-passes.new.self c.put-falls.new.self (not c.has_passed-has_passed.result) c.has_fallen.result c.put-passes.ensures.put c.put-falls.ensures.put (c.put-passes.ensures.known c.if-passes.false) (c.put-falls.ensures.known c.if-falls.false))
    c.look_at.ensures.tasks
