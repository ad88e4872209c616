use Rattle.std.proofs.Common.{◌≡◌, ◌<◌, length, [], ◌∷◌, ◌∙◌, ap, subst, arith}
use Rattle.resource_lock.specs.declared.ids.WorkerId.{WorkerId}
use Rattle.resource_lock.specs.declared.marks.Mark.TheVariants.{Waiting, Running, Passed}
use Rattle.resource_lock.specs.declared.marks.Mark.{Mark}
use Rattle.lock_transforms.specs.Making.{Makes}
use Rattle.resource_lock.specs.declared.marks.MarkId.TheVariants.{Unit as UnitOf}
use Rattle.resource_lock.specs.declared.changes.Change.{Change}
use Rattle.resource_lock.specs.declared.changes.Change.TheVariants.{Move}
use Rattle.lock_transforms.specs.Table.{mark_from}
use Rattle.lock_transforms.proofs.Makings.{makes_stopped, makes_then, still_named}
use Rattle.lock_transforms.proofs.TakenUp.{length-taken_up}
use Rattle.lock_transforms.proofs.kinds.unblocks.end_fetch.Goals as goal

pub returns-then-not-take_up : goal.returns-then-not-take_up
returns-then-not-take_up c = makes_stopped (Move (UnitOf c.args.closed.unit) (Running c.args.work.now.worker) (mark_from c.args.closed.outcome) ∷ []) c.if-not-take_up.ensures

pub try_change-requires-clause-named : goal.try_change-requires-clause-named
try_change-requires-clause-named c =
    let within : c.args.closed.unit < length c.args.work.now.state.units = omega (arith, c.requires.in_range, c.requires.sound.belongs.units) in
    still_named (Move (UnitOf c.args.closed.unit) Waiting Passed) c.if-not-take_up.ensures within

pub try_change-requires-clause-room : goal.try_change-requires-clause-room
try_change-requires-clause-room c = omega (arith, length-taken_up c.args.work.now.state c.args.work.now.worker, c.requires.room, c.if-not-take_up.ensures.room, c.if-not-take_up.ensures.few)

pub returns : goal.returns
returns c =
    let same : Move (UnitOf c.args.closed.unit) (Running c.worker.result) c.mark_from-ended.result ≡ Move (UnitOf c.args.closed.unit) (Running c.args.work.now.worker) (mark_from c.args.closed.outcome) =
    ap (λ (w : WorkerId). Move (UnitOf c.args.closed.unit) (Running w) c.mark_from-ended.result) (c.worker.ensures.value ∙ c.if-not-take_up.ensures.worker)
    ∙ ap (λ (m : Mark). Move (UnitOf c.args.closed.unit) (Running c.args.work.now.worker) m) c.mark_from-ended.ensures in
    makes_then c.if-not-take_up.ensures (subst (λ (d : Change). Makes c.take_up.new.work c.try_change.new.work (d ∷ []) c.try_change.result) same c.try_change.ensures)
