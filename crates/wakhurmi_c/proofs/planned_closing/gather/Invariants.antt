-- the passes of the handles so far, which are empty, and the others as they were
use Rattle.std.proofs.Common.{◌≡◌, ◌≤◌, ℕ, drop, false, length, map, take}
use Rattle.std.specs.List.{All}
use Rattle.std.specs.Prelude.{IfNone, IfSome, vec_capacity}
use Rattle.std.specs.Arc.{arc_value}
use Rattle.planned_work.specs.Ranks.{HasRanks}
use Rattle.wakhurmi_c.proofs.planned_closing.gather.Given as goal

abbrev pub invariant-loop-handle : goal.invariant-loop-handle
invariant-loop-handle l =
    let hs = l.fn.handles in
    (l.passes.items ≡ map (λ h. h.held.worker.pass) (take l.handle-index hs)) × (length hs ≤ vec_capacity l.passes)
    × All (λ h. h.full ≡ false) (take l.handle-index l.handles) × (drop l.handle-index l.handles ≡ drop l.handle-index hs)
    × IfSome l.shared (λ s. All (λ p. p.service.table ≡ (arc_value s).table.shared.table_id) l.passes.items)
    × IfSome l.shared (λ s. (n : ℕ) → All (λ h. h.held.worker.workers ≡ n) hs → (arc_value s).table.shared.key.kept.value.book.graph.workers ≡ n)
    × IfNone l.shared (l.handle-index ≡ 0)
    × All (λ p. HasRanks p.sight.seen.graph) l.passes.items
