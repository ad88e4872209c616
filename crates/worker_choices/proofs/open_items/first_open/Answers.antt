use Rattle.std.proofs.Common.{◌≡◌, ◌+◌, ℕ, Bool, true, false, refl, not, Option, ap, ◌∙◌, arith}
use mir.Val.{bool_byte}
use Rattle.std.specs.Prelude.{find}
use Rattle.std.specs.List.{range_with_len}
use Rattle.lock_journal.specs.Names.{GraphView, action_of, fetches, first_item, StateView, mark_of, GraphAction, UnitOf, has_ended}
use Rattle.worker_choices.proofs.OpenItems.{none_open_in_range, open_in_range}
use Rattle.worker_choices.proofs.open_items.first_open.Goals as goal

as_fetches : (b : Bool) → bool_byte b ≡ fetches b
as_fetches true = refl
as_fetches false = refl

-- the first item of an action that hasn't ended
abbrev first_of : StateView → GraphAction → Option ℕ
first_of s a = find (λ u. not (has_ended (mark_of s (UnitOf u)))) (range_with_len (first_item a) a.items)

pub returns-in_err-open : goal.returns-in_err-open
returns-in_err-open c =
    let state = c.args.book.now.state in
    let action = c.action_of-action.result in
    let first : action.first_unit + c.from.result ≡ first_item action = ap (λ (n : ℕ). action.first_unit + n) (c.from.ensures ∙ as_fetches action.fetch) in
    let units = c.action_of-action.ensures.units in
    let same = ap (λ (g : GraphView). g.units) c.graph-graph.ensures.value in
    c.from_residual.ensures
    ∙ none_open_in_range c.args.book.now.graph state (action.first_unit + c.from.result) action.items (omega arith) c.in_err-open.ensures.none
    ∙ ap (λ (n : ℕ). find (λ u. not (has_ended (mark_of state (UnitOf u)))) (range_with_len n action.items)) first
    ∙ ap (first_of state) (c.action_of-action.ensures.value ∙ ap (λ (g : GraphView). action_of g c.args.action) c.graph-graph.ensures.value)

pub returns : goal.returns
returns c =
    let state = c.args.book.now.state in
    let action = c.action_of-action.result in
    let first : action.first_unit + c.from.result ≡ first_item action = ap (λ (n : ℕ). action.first_unit + n) (c.from.ensures ∙ as_fetches action.fetch) in
    let units = c.action_of-action.ensures.units in
    let same = ap (λ (g : GraphView). g.units) c.graph-graph.ensures.value in
    c.then_some.ensures
    ∙ open_in_range c.args.book.now.graph state (action.first_unit + c.from.result) action.items c.in_ok-open.open (omega arith) c.in_ok-open.ensures.some
    ∙ ap (λ (n : ℕ). find (λ u. not (has_ended (mark_of state (UnitOf u)))) (range_with_len n action.items)) first
    ∙ ap (first_of state) (c.action_of-action.ensures.value ∙ ap (λ (g : GraphView). action_of g c.args.action) c.graph-graph.ensures.value)
