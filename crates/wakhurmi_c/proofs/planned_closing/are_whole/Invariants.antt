-- the handles stay full, with the same workers, and are whole if they were so far and those that are left have their numbers
use Rattle.std.proofs.Common.{◌≡◌, ◌<◌, ◌-◌, drop, length, map, take, true, false}
use Rattle.std.specs.List.{All}
use Rattle.coordination.specs.Sights.{workers_from}
use Rattle.wakhurmi_c.specs.PlannedOpening.{AreWhole}
use Rattle.wakhurmi_c.proofs.planned_closing.are_whole.Given as goal

abbrev pub invariant-loop-handle : goal.invariant-loop-handle
invariant-loop-handle l =
    let hs = l.fn.handles in
    let n = length hs in
    (l.number ≡ l.handle-index) × All (λ h. h.full ≡ true) l.handles × (map (λ h. h.held.worker) l.handles ≡ map (λ h. h.held.worker) hs)
    × (l.whole ≡ true → (0 < n) × All (λ h. h.held.worker.workers ≡ n) (take l.handle-index hs)
    × (map (λ h. h.held.worker.pass.sight.worker.0) (drop l.handle-index hs) ≡ workers_from l.handle-index (n - l.handle-index)
    → map (λ h. h.held.worker.pass.sight.worker.0) hs ≡ workers_from 0 n)) × (l.whole ≡ false → AreWhole hs → ⊥)
