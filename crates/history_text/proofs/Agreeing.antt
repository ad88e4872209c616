-- Marks and outcomes that agree at the plan's numbers give the same text.
use Rattle.std.proofs.Common.{◌≡◌, ℕ, ◌+◌, ◌<◌, ◌≤◌, List, [], ◌∷◌, ◌++◌, length, map, refl, ap, ◌∙◌, length-append, arith, zero, suc}
use Rattle.std.specs.List.{flat_map, range_with_len}
use Rattle.item_actions.specs.declared.outcomes.Outcome.{Outcome}
use Rattle.resource_lock.specs.declared.marks.Mark.{Mark}
use Rattle.plan_reader.specs.PlanView.{PlanTaskView, PlanView}
use Rattle.plan_reader.specs.Units.{PlannedUnit, task_units, plan_units}
use Rattle.history_text.specs.Text.{numbered}
use Rattle.history_text.specs.Results.{unit_line, unit_word, unit_text, task_line, tasks_text, below, summary_of, summary_text, results_text}

-- two functions agree at n numbers, from a on
abbrev Agree : {X : Type 0} → (ℕ → X) → (ℕ → X) → ℕ → ℕ → Type 0
Agree f g a n = (i : ℕ) → a ≤ i → i < a + n → f i ≡ g i

both : {a b c d : List ℕ} → a ≡ b → c ≡ d → a ++ c ≡ b ++ d
both {a} {b} {c} {d} e k = ap (λ x. x ++ c) e ∙ ap (λ x. b ++ x) k

values_same : {X : Type 0} (f g : ℕ → X) (a n : ℕ) → Agree f g a n → map f (range_with_len a n) ≡ map g (range_with_len a n)
values_same f g a zero same = refl
values_same f g a (suc n) same =
    ap (λ x. x ∷ map f (range_with_len (a + 1) n)) (same a (omega arith) (omega arith))
    ∙ ap (λ xs. g a ∷ xs) (values_same f g (a + 1) n (λ i from to. same i (omega arith) (omega arith)))

units_same : (f g : ℕ → Outcome) (a : ℕ) (us : List PlannedUnit) → Agree f g a (length us) → numbered (unit_text f) a us ≡ numbered (unit_text g) a us
units_same f g a [] same = refl
units_same f g a (u ∷ us) same =
    both (ap (unit_line (unit_word u.action) u.file) (same a (omega arith) (omega arith))) (units_same f g (a + 1) us (λ i from to. same i (omega arith) (omega arith)))

tasks_same : (marks marks' : ℕ → Mark) (f g : ℕ → Outcome) (t u : ℕ) (ts : List PlanTaskView) → Agree marks marks' t (length ts) → Agree f g u (length (flat_map task_units ts)) → tasks_text marks f t u ts ≡ tasks_text marks' g t u ts
tasks_same marks marks' f g t u [] same agree = refl
tasks_same marks marks' f g t u (x ∷ ts) same agree =
    let long : length (task_units x ++ flat_map task_units ts) ≡ length (task_units x) + length (flat_map task_units ts) = length-append (task_units x) (flat_map task_units ts) in
    both (both (ap (task_line x.name) (same t (omega arith) (omega arith))) (units_same f g u (task_units x) (λ i from to. agree i from (omega (arith, long)))))
    (tasks_same marks marks' f g (t + 1) (u + length (task_units x)) ts (λ i from to. same i (omega arith) (omega arith)) (λ i from to. agree i (omega arith) (omega (arith, long))))

pub summary_same : (p : PlanView) (marks marks' : ℕ → Mark) (outcomes outcomes' : ℕ → Outcome) → ((t : ℕ) → t < length p.tasks → marks t ≡ marks' t) → ((u : ℕ) → u < length (plan_units p) → outcomes u ≡ outcomes' u) → summary_text p marks outcomes ≡ summary_text p marks' outcomes'
summary_same p marks marks' outcomes outcomes' same agree =
    ap (λ ms. summary_of ms (below (length (plan_units p)) outcomes)) (values_same marks marks' 0 (length p.tasks) (λ t from to. same t (omega arith)))
    ∙ ap (summary_of (below (length p.tasks) marks')) (values_same outcomes outcomes' 0 (length (plan_units p)) (λ u from to. agree u (omega arith)))

pub results_same : (p : PlanView) (marks marks' : ℕ → Mark) (outcomes outcomes' : ℕ → Outcome) → ((t : ℕ) → t < length p.tasks → marks t ≡ marks' t) → ((u : ℕ) → u < length (plan_units p) → outcomes u ≡ outcomes' u) → results_text p marks outcomes ≡ results_text p marks' outcomes'
results_same p marks marks' outcomes outcomes' same agree =
    both (tasks_same marks marks' outcomes outcomes' 0 0 p.tasks (λ t from to. same t (omega arith)) (λ u from to. agree u (omega arith)))
    (summary_same p marks marks' outcomes outcomes' same agree)
