-- The sets by counts, and the sets by marks.
use Rattle.std.proofs.Common.{◌≡◌, ℕ, ◌<◌, not, length, sym, ◌∙◌, arith, ◌⊎◌, inl, inr}
use Rattle.std.specs.Prelude.{◌↔◌}
use Rattle.std.specs.List.{count_by}
use Rattle.resource_lock.specs.Fits.{Fits}
use Rattle.resource_lock.specs.GraphView.{GraphView, no_task, task_of}
use Rattle.resource_lock.specs.Marks.{has_fallen, has_passed}
use Rattle.resource_lock.specs.StateView.{StateView, mark_of}
use Rattle.resource_lock.specs.declared.marks.MarkId.TheVariants.{Task as TaskOf}
use Rattle.ready_work.specs.Choices.{CanSkip, IsStartable, IsUnended}
use Rattle.ready_work.specs.Sets.{NoNumber}
use Rattle.ready_work.specs.DependencyCounts.{count_of, is_counted}
use Rattle.ready_work.specs.TaskSets.{AreCounted, AreSetsByCount, AreTaskSets, CanSkipByCount, HasDependencyCounts, IsCountedAt, IsStartableByCount, IsUnendedIn}
use Rattle.ready_work.specs.declared.task_sets.TaskSets.{TaskSets}
use Rattle.ready_work.proofs.Counting.{all_from_none, any_from_some, count_eq, none_from_all, some_from_any}
use Rattle.ready_work.proofs.Looking.{set_moved}

module _ (g : GraphView) (s : StateView) (sets : TaskSets) (fits : Fits g) (size : length s.tasks ≡ length g.tasks) (dependency_counts : HasDependencyCounts g sets) (counted : AreCounted s NoNumber sets) where
  counted_at : (k : ℕ) → k < length g.tasks → IsCountedAt s sets k
  counted_at k lt = at (counted.each k (omega (arith, size, lt)))
    where
      at : NoNumber k ⊎ IsCountedAt s sets k → IsCountedAt s sets k
      at (inl none) = absurd none
      at (inr is) = is

  fallen_count : (t : ℕ) → t < length g.tasks → count_of sets.fallen t ≡ count_by (λ k. has_fallen (mark_of s (TaskOf k))) (task_of g t).after
  fallen_count t lt = dependency_counts.fallen.each t ∙ count_eq (is_counted sets.fallen) (λ k. has_fallen (mark_of s (TaskOf k))) (length g.tasks) (λ k low. (counted_at k low).fallen) (task_of g t).after (fits.after_within t no_task lt)

  unpassed_count : (t : ℕ) → t < length g.tasks → count_of sets.unpassed t ≡ count_by (λ k. not (has_passed (mark_of s (TaskOf k)))) (task_of g t).after
  unpassed_count t lt = dependency_counts.unpassed.each t ∙ count_eq (is_counted sets.unpassed) (λ k. not (has_passed (mark_of s (TaskOf k)))) (length g.tasks) (λ k low. (counted_at k low).unpassed) (task_of g t).after (fits.after_within t no_task lt)

  pub skip_by_count : (t : ℕ) → CanSkip g s t ↔ CanSkipByCount s sets.fallen t
  skip_by_count t = (
    λ p. let lt = p.within in record { within = omega (arith, lt, size); waits = p.waits; some = omega (arith, fallen_count t lt, some_from_any (λ k. has_fallen (mark_of s (TaskOf k))) (task_of g t).after p.fallen) },
    λ p. let low = p.within in let some = p.some in let lt : t < length g.tasks = omega (arith, low, size) in record { within = lt; waits = p.waits; fallen = any_from_some (λ k. has_fallen (mark_of s (TaskOf k))) (task_of g t).after (omega (arith, fallen_count t lt, some)) },
  )

  pub startable_by_count : (t : ℕ) → IsStartable g s t ↔ IsStartableByCount s sets.unpassed t
  startable_by_count t = (
    λ p. let lt = p.within in record { within = omega (arith, lt, size); waits = p.waits; none = unpassed_count t lt ∙ none_from_all (λ k. has_passed (mark_of s (TaskOf k))) (task_of g t).after p.passed },
    λ p. let low = p.within in let lt : t < length g.tasks = omega (arith, low, size) in record { within = lt; waits = p.waits; passed = all_from_none (λ k. has_passed (mark_of s (TaskOf k))) (task_of g t).after (sym (unpassed_count t lt) ∙ p.none) },
  )

  pub unended_in : (t : ℕ) → IsUnended g s t ↔ IsUnendedIn s t
  unended_in t = (
    λ p. let lt = p.within in record { within = omega (arith, lt, size); unended = p.unended },
    λ p. let lt = p.within in record { within = omega (arith, lt, size); unended = p.unended },
  )

  back : {A B : Type 0} → A ↔ B → B ↔ A
  back eq = (eq.1, eq.0)

  pub task_sets_by_count : AreSetsByCount s NoNumber sets → AreTaskSets g s sets
  task_sets_by_count are = record {
    skippable = set_moved (CanSkipByCount s sets.fallen) (CanSkip g s) NoNumber sets.skippable (λ t. inr (back (skip_by_count t))) are.skippable;
    startable = set_moved (IsStartableByCount s sets.unpassed) (IsStartable g s) NoNumber sets.startable.tasks (λ t. inr (back (startable_by_count t))) are.startable;
    unended = set_moved (IsUnendedIn s) (IsUnended g s) NoNumber sets.unended (λ t. inr (back (unended_in t))) are.unended;
  }
