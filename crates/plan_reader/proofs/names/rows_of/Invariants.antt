use Rattle.std.proofs.Common.{◌≡◌, ◌≤◌, ℕ, false, get_or, length, map, take}
use Rattle.std.specs.List.{list_any}
use Rattle.plan_document.specs.View.{view}
use Rattle.ready_work.specs.Rank.{lists_of}
use Rattle.plan_table.specs.Keys.{after_of}
use Rattle.plan_reader.specs.Names.{dependency_numbers, lacks_any}
use Rattle.plan_reader.proofs.names.rows_of.Given as goal

abbrev pub invariant-loop-number : goal.invariant-loop-number
invariant-loop-number l =
    (lists_of l.rows.items ≡ map (λ v. dependency_numbers l.names (view v)) (take l.number l.tasks))
    × ((list_any (λ v. lacks_any l.names (after_of (view v))) (take l.number l.tasks) ≡ false)
    × ((length l.marks.items ≡ length l.names) × ((k : ℕ) → get_or l.marks.items k 0 ≤ l.number)))
