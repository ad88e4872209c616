use Rattle.std.proofs.Common.{refl}
use Rattle.ready_work.specs.Rank.{lists_of}
use Rattle.task_ordering.proofs.Settling.{befores_in, advances_waiting, sound_advanced, looks_advanced}
use Rattle.task_ordering.proofs.placing.Placing.look_at.Goals as goal

pub first_open-place-requires-clause-range : goal.first_open-place-requires-clause-range
first_open-place-requires-clause-range c =
    rw (c.as_slice.ensures.value) (befores_in c.args.to_run.now (lists_of c.args.befores.now) c.args.task c.befores_at-all.result.now c.args.self.now.placed.items c.requires.are c.befores_at-all.ensures c.requires.sound.marks)

pub returns-else-place-all-clause-sound : goal.returns-else-place-all-clause-sound
returns-else-place-all-clause-sound c =
    sound_advanced c.args.to_run.now (lists_of c.args.befores.now) c.args.self.now _ c.args.task c.first_open-place.result c.requires.sound
    (advances_waiting c.args.to_run.now (lists_of c.args.befores.now) c.args.self.now _ c.args.task c.first_open-place.result c.befores_at-all.result.now c.as_slice.result.now c.index.result.now c.index-2.result.now
    c.requires.sound c.requires.are c.requires.task c.index.ensures c.if-index.false c.index-2.ensures c.befores_at-all.ensures c.as_slice.ensures.value
    c.first_open-place.ensures.low c.first_open-place.ensures.high c.first_open-place.ensures.passed refl refl refl c.if-place-all.false c.first_open-place.ensures.open refl)

pub returns-else-place-all-clause-looks : goal.returns-else-place-all-clause-looks
returns-else-place-all-clause-looks c =
    looks_advanced c.args.to_run.now (lists_of c.args.befores.now) c.args.self.now _ c.args.task c.first_open-place.result c.requires.sound
    (advances_waiting c.args.to_run.now (lists_of c.args.befores.now) c.args.self.now _ c.args.task c.first_open-place.result c.befores_at-all.result.now c.as_slice.result.now c.index.result.now c.index-2.result.now
    c.requires.sound c.requires.are c.requires.task c.index.ensures c.if-index.false c.index-2.ensures c.befores_at-all.ensures c.as_slice.ensures.value
    c.first_open-place.ensures.low c.first_open-place.ensures.high c.first_open-place.ensures.passed refl refl refl c.if-place-all.false c.first_open-place.ensures.open refl)
