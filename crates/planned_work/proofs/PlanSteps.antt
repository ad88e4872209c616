-- What the calls that make a plan keep.
use Rattle.std.proofs.Common.{◌≡◌, ◌⊎◌, ◌+◌, ◌-◌, ◌<◌, ℕ, zero, suc, false, List, [], ◌∷◌, ◌++◌, arith, get_or, inl, inr, length, sym, ap, ◌∙◌}
use Rattle.std.specs.Prelude.{set, slice_get, sum_by}
use Rattle.std.proofs.lemmas.List.{get_or_append_left, length_push}
use Rattle.std.proofs.lemmas.List.Sums.{sum_by-set, sum_by_push}
use Rattle.std.proofs.lemmas.Option.{slice_get-get_or}
use Rattle.planned_work.specs.Plans.{PlannedTaskView, ReleaseLast, is_release, releases, releases_at, units_of_action, units_of_task}
use Rattle.planned_work.specs.declared.plans.PlannedAction.{PlannedAction}

-- an action more of a task has so many units more in the plan
pub units_more : (ts : List PlannedTaskView) (t : ℕ) (d : PlannedTaskView) (a : PlannedAction) → t < length ts
    → sum_by units_of_task (set ts t (record { lock = (get_or ts t d).lock; actions = (get_or ts t d).actions ++ a ∷ [] })) ≡ sum_by units_of_task ts + units_of_action a
units_more ts t d a low =
    let all = sum_by-set units_of_task ts t (record { lock = (get_or ts t d).lock; actions = (get_or ts t d).actions ++ a ∷ [] }) d low in
    let here = sum_by_push units_of_action (get_or ts t d).actions a in
    omega (arith, all, here)

or_last : (k n : ℕ) → k < n → (k + 1 < n) ⊎ (k ≡ n - 1)
or_last k zero low = absurd (omega (arith, low))
or_last zero (suc zero) low = inr (omega arith)
or_last zero (suc (suc n)) low = inl (omega arith)
or_last (suc k) (suc n) low = elim (or_last k n (omega (arith, low))) [
  | inl more ↦ inl (omega (arith, more))
  | inr same ↦ inr (omega (arith, same, low))
]

-- behind actions of which none releases the lock another may stand
pub release_push : (as' : List PlannedAction) (a : PlannedAction) → ReleaseLast as' → releases as' ≡ false → ReleaseLast (as' ++ a ∷ [])
release_push as' a last none k d low =
    let size = length_push as' a in
    let before : k < length as' = omega (arith, low, size) in
    ap (λ (b : PlannedAction). is_release b.retention) (get_or_append_left as' (a ∷ []) d k before) ∙ elim (or_last k (length as') before) [
      | inl more ↦ last k d more
      | inr same ↦ ap releases_at (sym (slice_get-get_or as' k d before)) ∙ (ap (λ n. releases_at (slice_get as' n)) same ∙ none)
    ]
