use Rattle.std.proofs.Common.{◌≡◌, ℕ, ◌<◌, length, get_or, Bool, true, false, ◌&&◌, eqb, sym, ◌∙◌, ap, arith, inl, inr, zero-add}
use Rattle.std.specs.List.{list_any, range_with_len}
use Rattle.std.proofs.lemmas.Bool.{and_parts, cases_Bool, both_ways, eqb-true, false_from_ne_true}
use Rattle.std.proofs.lemmas.List.Elements.{All-from_get_or}
use Rattle.std.proofs.lemmas.List.Folds.{list_any_at, list_any_none}
use Rattle.std.proofs.lemmas.List.FromFn.{get_or-range_with_len, length-range_with_len}
use Rattle.resource_lock.proofs.lemmas.Units.{one_action}
use Rattle.resource_lock.specs.Change.{same_mark}
use Rattle.resource_lock.specs.Fits.{Fits}
use Rattle.resource_lock.specs.GraphView.{GraphView, action_of}
use Rattle.resource_lock.specs.Ranges.{IsUnitOf, task_with}
use Rattle.resource_lock.specs.StateView.{StateView, mark_of}
use Rattle.resource_lock.specs.declared.ids.WorkerId.{WorkerId}
use Rattle.resource_lock.specs.declared.marks.Mark.TheVariants.{Waiting}
use Rattle.resource_lock.specs.declared.marks.MarkId.TheVariants.{Action as ActionOf, Unit as UnitOf}
use Rattle.lock_transforms.specs.Table.{earlier_passed, works_on}
use Rattle.lock_transforms.proofs.kinds.blocks.can_fetch.Goals as goal

-- the unit is the fetch of the action, which the worker can run
abbrev begins : GraphView → StateView → WorkerId → ℕ → ℕ → Bool
begins g s w u a = (action_of g a).fetch && eqb (action_of g a).first_unit u && works_on s w (task_with g a) && same_mark (mark_of s (ActionOf a)) Waiting && same_mark (mark_of s (UnitOf u)) Waiting && earlier_passed g s a

fetch_in : (g : GraphView) (s : StateView) (w : WorkerId) (u a : ℕ) → begins g s w u a ≡ true → IsUnitOf g a u
fetch_in g s w u a is =
    let passed : ((action_of g a).fetch && eqb (action_of g a).first_unit u && works_on s w (task_with g a) && same_mark (mark_of s (ActionOf a)) Waiting && same_mark (mark_of s (UnitOf u)) Waiting) ≡ true = (and_parts _ (earlier_passed g s a) is).0 in
    let waits : ((action_of g a).fetch && eqb (action_of g a).first_unit u && works_on s w (task_with g a) && same_mark (mark_of s (ActionOf a)) Waiting) ≡ true = (and_parts _ (same_mark (mark_of s (UnitOf u)) Waiting) passed).0 in
    let works : ((action_of g a).fetch && eqb (action_of g a).first_unit u && works_on s w (task_with g a)) ≡ true = (and_parts _ (same_mark (mark_of s (ActionOf a)) Waiting) waits).0 in
    let parts : ((action_of g a).fetch ≡ true) × (eqb (action_of g a).first_unit u ≡ true) = and_parts (action_of g a).fetch (eqb (action_of g a).first_unit u) (and_parts _ (works_on s w (task_with g a)) works).0 in
    inl (parts.0, sym (eqb-true (action_of g a).first_unit u parts.1))

-- no other action has the unit
pub one_begins : (g : GraphView) (s : StateView) (w : WorkerId) (u a : ℕ) → Fits g → IsUnitOf g a u → a < length g.actions → begins g s w u a ≡ list_any (begins g s w u) (range_with_len 0 (length g.actions))
one_begins g s w u a fits unit within = elim (cases_Bool (begins g s w u a)) [
  | inl can ↦ can ∙ sym (list_any_at (begins g s w u) (range_with_len 0 (length g.actions)) a 0 (omega (arith, length-range_with_len 0 (length g.actions)))
      (ap (begins g s w u) (get_or-range_with_len 0 (length g.actions) a 0 within ∙ zero-add a) ∙ can))
  | inr not_now ↦ not_now ∙ sym (list_any_none (begins g s w u) (range_with_len 0 (length g.actions)) (All-from_get_or (λ b. begins g s w u b ≡ false) (range_with_len 0 (length g.actions)) 0 (λ k _.
      let b : ℕ = get_or (range_with_len 0 (length g.actions)) k 0 in
      false_from_ne_true (begins g s w u (get_or (range_with_len 0 (length g.actions)) k 0)) (λ can.
      both_ways (begins g s w u (get_or (range_with_len 0 (length g.actions)) k 0)) (ap (begins g s w u) (one_action g (get_or (range_with_len 0 (length g.actions)) k 0) a u fits (fetch_in g s w u (get_or (range_with_len 0 (length g.actions)) k 0) can) unit) ∙ not_now) can))))
]

pub returns : goal.returns
returns c = c.can_begin.ensures ∙ one_begins c.args.graph.now c.args.state.now c.args.worker c.args.unit c.action_with.result c.requires.fits c.action_with.ensures.action c.action_with.ensures.in_range
