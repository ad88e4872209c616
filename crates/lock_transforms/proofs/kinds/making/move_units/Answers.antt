use Rattle.std.proofs.Common.{◌≡◌, ◌+◌, ◌-◌, length, arith}
use Rattle.std.specs.List.{range_with_len}
use Rattle.std.proofs.lemmas.List.{map-append}
use Rattle.std.proofs.lemmas.List.FromFn.{length-map-range_with_len}
use Rattle.resource_lock.specs.declared.marks.MarkId.TheVariants.{Unit as UnitOf}
use Rattle.resource_lock.specs.declared.changes.Change.TheVariants.{Move}
use Rattle.lock_transforms.specs.Table.{moved_units}
use Rattle.lock_transforms.proofs.Makings.{makes_more, makes_some, still_named}
use Rattle.lock_transforms.proofs.kinds.making.move_units.Goals as goal

pub try_change-requires-clause-named : goal.try_change-requires-clause-named
try_change-requires-clause-named c = still_named (Move (UnitOf c.loop-unit.unit) c.args.from c.args.to) c.loop-unit.invariant (omega (arith, c.requires.in_range))

pub try_change-requires-clause-room : goal.try_change-requires-clause-room
try_change-requires-clause-room c =
    let few : length (moved_units (range_with_len c.args.units.first (c.loop-unit.unit - c.args.units.first)) c.args.from c.args.to) ≡ c.loop-unit.unit - c.args.units.first = length-map-range_with_len (λ u. Move (UnitOf u) c.args.from c.args.to) c.args.units.first (c.loop-unit.unit - c.args.units.first) in
    omega (arith, c.loop-unit.invariant.room, c.loop-unit.invariant.few, c.requires.room)

pub returns-then-not-try_change : goal.returns-then-not-try_change
returns-then-not-try_change c = makes_some (λ us. moved_units us c.args.from c.args.to) (map-append (λ u. Move (UnitOf u) c.args.from c.args.to)) c.args.units.first (c.loop-unit.unit + 1 - c.args.units.first) c.args.units.count (omega arith)
    (makes_more (λ us. moved_units us c.args.from c.args.to) (map-append (λ u. Move (UnitOf u) c.args.from c.args.to)) c.args.units.first c.loop-unit.unit (omega arith) c.loop-unit.invariant c.if-not-try_change.ensures)

pub loop-unit-preserved : goal.loop-unit-preserved
loop-unit-preserved c = makes_more (λ us. moved_units us c.args.from c.args.to) (map-append (λ u. Move (UnitOf u) c.args.from c.args.to)) c.args.units.first c.loop-unit.unit (omega arith) c.loop-unit.invariant c.if-not-try_change.ensures
