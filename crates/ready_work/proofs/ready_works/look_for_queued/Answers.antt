use Rattle.std.proofs.Common.{◌≡◌, ◌⊎◌, ◌∙◌, ◌+◌, ◌<◌, ℕ, inl, inr, sym, subst, arith}
use Rattle.std.proofs.lemmas.Bool.{cases_eq, true≢false}
use Rattle.ready_work.specs.Choices.{IsQueued}
use Rattle.ready_work.proofs.ready_works.look_for_queued.Goals as goal

-- this one isn't queued either
pub loop-unit-preserved : goal.loop-unit-preserved
loop-unit-preserved c = λ k lt q. here k lt q (cases_eq k c.loop-unit.unit)
  where
    here : (k : ℕ) → k < c.loop-unit.unit + 1 → IsQueued c.args.graph.now c.args.state.now k → (k ≡ c.loop-unit.unit) ⊎ (k ≡ c.loop-unit.unit → ⊥) → ⊥
    here k lt q (inl same) = true≢false (sym (c.is_queued.ensures.1 (subst (λ (u : ℕ). IsQueued c.args.graph.now c.args.state.now u) same q).queued) ∙ c.if-is_queued.false)
    here k lt q (inr other) = c.loop-unit.invariant k (omega (arith, lt, other)) q

pub returns-then-is_queued-clause-some : goal.returns-then-is_queued-clause-some
returns-then-is_queued-clause-some c = record { is = record { within = omega arith; queued = c.is_queued.ensures.0 c.if-is_queued.true }; least = c.loop-unit.invariant }

pub returns-clause-none : goal.returns-clause-none
returns-clause-none c = record { none = λ k q. let within = q.within in c.loop-unit.invariant k (omega (arith, within)) q }
