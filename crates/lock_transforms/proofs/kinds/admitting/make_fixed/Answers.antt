use Rattle.std.proofs.Common.{◌≡◌, Decides, List, inl, inr, subst}
use Rattle.resource_lock.specs.declared.changes.Change.{Change}
use Rattle.lock_transforms.proofs.Admitting.{made_tried, outside_tried, stopped_tried}
use Rattle.lock_transforms.proofs.Most.{room_for}
use Rattle.lock_transforms.proofs.kinds.admitting.make_fixed.Goals as goal

pub run_fixed-requires-clause-room : goal.run_fixed-requires-clause-room
run_fixed-requires-clause-room g c = room_for c.graph.ensures.fits c.graph.ensures.belongs c.state.ensures.good c.args.work.now.worker c.args.work.now.room (g.K.FixedKind.kind_of c.args.kind.now) c.requires.room

pub returns-in-Made : goal.returns-in-Made
returns-in-Made g c = made_tried c.run_fixed.ensures.worked (c.run_fixed.ensures.made c.in-Made.is) c.run_fixed.ensures.fixed
    (subst (λ (l : List Change). Decides c.are_same.result (l ≡ c.args.changes.now)) c.made.ensures c.are_same.ensures)

pub returns-in-NotEnabled : goal.returns-in-NotEnabled
returns-in-NotEnabled g c = elim (c.in-NotEnabled.is) [
  | inl stopped ↦ stopped_tried c.run_fixed.ensures.worked c.run_fixed.ensures.fixed (c.run_fixed.ensures.not_enabled stopped).0
  | inr outside ↦ outside_tried c.run_fixed.ensures.worked (c.run_fixed.ensures.out_of_range outside)
]
