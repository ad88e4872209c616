-- The counts and the sets as they are made.
use Rattle.std.proofs.Common.{◌≡◌, ℕ, ◌+◌, ◌<◌, ◌≤◌, not, length, refl, sym, ◌∙◌, ap, subst, arith, ◌⊎◌, inl, inr}
use Rattle.std.proofs.lemmas.Bool.{cases_eq}
use Rattle.resource_lock.specs.GraphView.{GraphView}
use Rattle.resource_lock.specs.Marks.{has_fallen, has_passed}
use Rattle.resource_lock.specs.StateView.{StateView, mark_of}
use Rattle.resource_lock.specs.declared.marks.MarkId.TheVariants.{Task as TaskOf}
use Rattle.ready_work.specs.Rank.{Dependencies, after}
use Rattle.ready_work.specs.Dependents.{AreDependents}
use Rattle.ready_work.specs.Sets.{NoNumber}
use Rattle.ready_work.specs.DependencyCounts.{is_counted, AreCountsOf, PutsCount}
use Rattle.ready_work.specs.TaskSets.{AreCounted, AreEmpty, CountsAll, HasClosedLocks, HasDependencyCounts, HasTaskRoom, IsCountedAt}
use Rattle.ready_work.specs.declared.dependency_counts.DependencyCounts.{DependencyCounts}
use Rattle.ready_work.specs.declared.task_sets.TaskSets.{TaskSets}
use Rattle.ready_work.proofs.Counting.{counts_put}

-- ---- all tasks are counted, one after another

pub counts_none : (g : GraphView) (s : StateView) (sets : TaskSets) → HasTaskRoom (length g.tasks) sets → HasDependencyCounts g sets → CountsAll g s 0 sets sets
counts_none g s sets room dependency_counts = record {
  same = refl;
  unpassed = room.unpassed;
  fallen = room.fallen;
  dependency_counts = dependency_counts;
  counted = λ t lt. absurd (omega (arith, lt));
}

pub counts_next : (g : GraphView) (s : StateView) (all : Dependencies) (task : ℕ) (base now : TaskSets) (unpassed fallen : DependencyCounts) → AreDependents g all → PutsCount (after all task) task (has_fallen (mark_of s (TaskOf task))) now.fallen fallen → PutsCount (after all task) task (not (has_passed (mark_of s (TaskOf task)))) now.unpassed unpassed → CountsAll g s task base now → CountsAll g s (task + 1) base (record now { unpassed = unpassed; fallen = fallen })
counts_next g s all task base now unpassed fallen are pf pu is = record {
  same = ap (λ (sets : TaskSets). record sets { unpassed = unpassed; fallen = fallen }) is.same;
  unpassed = record { counted = pu.size ∙ is.unpassed.counted; counts = pu.counts_size ∙ is.unpassed.counts };
  fallen = record { counted = pf.size ∙ is.fallen.counted; counts = pf.counts_size ∙ is.fallen.counts };
  dependency_counts = record {
    unpassed = counts_put g all task (not (has_passed (mark_of s (TaskOf task)))) now.unpassed unpassed are pu is.dependency_counts.unpassed;
    fallen = counts_put g all task (has_fallen (mark_of s (TaskOf task))) now.fallen fallen are pf is.dependency_counts.fallen;
  };
  counted = λ t lt. counted t lt (cases_eq t task);
}
  where
    counted : (t : ℕ) → t < task + 1 → (t ≡ task) ⊎ (t ≡ task → ⊥) → IsCountedAt s (record now { unpassed = unpassed; fallen = fallen }) t
    counted t lt (inl e) = subst (IsCountedAt s (record now { unpassed = unpassed; fallen = fallen })) (sym e) (record { unpassed = pu.put; fallen = pf.put })
    counted t lt (inr ne) = let before = is.counted t (omega (arith, lt, ne)) in record { unpassed = pu.others t ne ∙ before.unpassed; fallen = pf.others t ne ∙ before.fallen }

pub counts_fewer : (g : GraphView) (s : StateView) (m n : ℕ) (old new : TaskSets) → m ≤ n → CountsAll g s n old new → CountsAll g s m old new
counts_fewer g s m n old new le is = record {
  same = is.same;
  unpassed = is.unpassed;
  fallen = is.fallen;
  dependency_counts = is.dependency_counts;
  counted = λ t lt. is.counted t (omega (arith, lt, le));
}

-- ---- the sets once all tasks are counted

pub still_empty : (g : GraphView) (s : StateView) (n : ℕ) (old new : TaskSets) → CountsAll g s n old new → AreEmpty old → AreEmpty new
still_empty g s n old new is none = subst AreEmpty (sym is.same) (record { skippable = none.skippable; startable = none.startable; unended = none.unended })

pub room_counted : (g : GraphView) (s : StateView) (n : ℕ) (old new : TaskSets) → CountsAll g s n old new → HasTaskRoom (length g.tasks) old → HasTaskRoom (length g.tasks) new
room_counted g s n old new is room = subst (HasTaskRoom (length g.tasks)) (sym is.same) (record { skippable = room.skippable; startable = room.startable; unended = room.unended; unpassed = is.unpassed; fallen = is.fallen })

pub closed_counted : (g : GraphView) (s : StateView) (n : ℕ) (old new : TaskSets) → CountsAll g s n old new → HasClosedLocks g old.startable → HasClosedLocks g new.startable
closed_counted g s n old new is closed = subst (HasClosedLocks g) (sym (ap (λ (sets : TaskSets). sets.startable) is.same)) closed

pub dependency_counts_filled : (g : GraphView) (mid new : TaskSets) → new.unpassed ≡ mid.unpassed → new.fallen ≡ mid.fallen → HasDependencyCounts g mid → HasDependencyCounts g new
dependency_counts_filled g mid new u f is = record { unpassed = subst (AreCountsOf g) (sym u) is.unpassed; fallen = subst (AreCountsOf g) (sym f) is.fallen }

pub counted_filled : (g : GraphView) (s : StateView) (old mid new : TaskSets) → length s.tasks ≡ length g.tasks → new.unpassed ≡ mid.unpassed → new.fallen ≡ mid.fallen → CountsAll g s (length g.tasks) old mid → AreCounted s NoNumber new
counted_filled g s old mid new size u f is = record { each = λ t lt. inr (at t (is.counted t (omega (arith, lt, size)))) }
  where
    at : (t : ℕ) → IsCountedAt s mid t → IsCountedAt s new t
    at t here = record { unpassed = ap (λ (y : DependencyCounts). is_counted y t) u ∙ here.unpassed; fallen = ap (λ (y : DependencyCounts). is_counted y t) f ∙ here.fallen }
