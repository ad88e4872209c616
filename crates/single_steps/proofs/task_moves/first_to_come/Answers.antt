use Rattle.std.proofs.Common.{◌≡◌, ◌⊎◌, ◌∙◌, ◌+◌, ◌<◌, ◌≤◌, ℕ, false, inl, inr, sym, subst, ap, arith}
use Rattle.std.proofs.lemmas.Bool.{cases_eq}
use Rattle.resource_lock.specs.GraphView.{GraphView, task_of}
use Rattle.single_steps.specs.TaskMoves.{can_come}
use Rattle.worker_choices.proofs.OpenItems.{found_in, none_in}
use Rattle.single_steps.proofs.task_moves.first_to_come.Goals as goal

pub loop-action-init : goal.loop-action-init
loop-action-init c =
    let first = c.actions_of-actions.ensures.first ∙ ap (λ (g : GraphView). (task_of g c.args.task).first_action) c.graph.ensures.value in
    λ k le lt. absurd (omega (arith, le, lt, first))

pub loop-action-preserved : goal.loop-action-preserved
loop-action-preserved c = λ k le lt. here k le lt (cases_eq k c.loop-action.action)
  where
    here : (k : ℕ) → (task_of c.args.book.now.graph c.args.task).first_action ≤ k → k < c.loop-action.action + 1 → (k ≡ c.loop-action.action) ⊎ (k ≡ c.loop-action.action → ⊥) → can_come c.args.book.now.graph c.args.book.now.state k ≡ false
    here k le lt (inl same) = subst (λ (a : ℕ). can_come c.args.book.now.graph c.args.book.now.state a ≡ false) (sym same) (sym c.can_come.ensures ∙ c.if-can_come.false)
    here k le lt (inr other) = c.loop-action.invariant k le (omega (arith, lt, other))

-- the first is found where those before it can't come next
pub returns-then-can_come-clause-first : goal.returns-then-can_come-clause-first
returns-then-can_come-clause-first c =
    let t = task_of c.args.book.now.graph c.args.task in
    let first = c.actions_of-actions.ensures.first ∙ ap (λ (g : GraphView). (task_of g c.args.task).first_action) c.graph.ensures.value in
    let count = c.actions_of-actions.ensures.count ∙ ap (λ (g : GraphView). (task_of g c.args.task).actions) c.graph.ensures.value in
    found_in (can_come c.args.book.now.graph c.args.book.now.state) t.first_action t.actions c.loop-action.action
    (record { from = omega (arith, first); holds = sym c.can_come.ensures ∙ c.if-can_come.true; before = λ k le lt. c.loop-action.invariant k le lt }) (omega (arith, first, count))

pub returns-clause-first : goal.returns-clause-first
returns-clause-first c =
    let t = task_of c.args.book.now.graph c.args.task in
    let first = c.actions_of-actions.ensures.first ∙ ap (λ (g : GraphView). (task_of g c.args.task).first_action) c.graph.ensures.value in
    let count = c.actions_of-actions.ensures.count ∙ ap (λ (g : GraphView). (task_of g c.args.task).actions) c.graph.ensures.value in
    none_in (can_come c.args.book.now.graph c.args.book.now.state) t.first_action t.actions (λ k le lt. c.loop-action.invariant k le (omega (arith, lt, first, count)))
