-- The dependents of each task, from the lists of the tasks that each comes after.
use Rattle.std.proofs.Common.{◌≡◌, ℕ, zero, suc, ◌<◌, ◌≤◌, List, [], ◌∷◌, length, get_or, map, refl, sym, ◌∙◌, ap, subst, arith, ◌⊎◌, inl, inr}
use Rattle.std.specs.Prelude.{Contains}
use Rattle.std.specs.List.{All}
use Rattle.std.proofs.lemmas.Bool.{cases_lt}
use Rattle.std.proofs.lemmas.List.{get_or_default, get_or_past, length-map, take_all}
use Rattle.resource_lock.specs.Fits.{Fits}
use Rattle.resource_lock.specs.GraphView.{GraphView, GraphTaskView, task_of, no_task}
use Rattle.ready_work.specs.Rank.{Dependencies, after}
use Rattle.ready_work.specs.DependentLists.{ListsDependents, times}
use Rattle.ready_work.specs.Dependents.{AreDependents}

-- for each task, the tasks that it comes after
abbrev pub afters_in : List GraphTaskView → Dependencies
afters_in ts = map (λ t. t.after) ts

pub after_in : (ts : List GraphTaskView) (t : ℕ) → after (afters_in ts) t ≡ (get_or ts t no_task).after
after_in [] t = refl
after_in (x ∷ ts) zero = refl
after_in (x ∷ ts) (suc t) = after_in ts t

-- the tasks that a task comes after are among so many
pub after_small : (g : GraphView) (t : ℕ) → Fits g → All (λ k. k < length g.tasks) (after (afters_in g.tasks) t)
after_small g t fits = at (cases_lt t (length g.tasks))
  where
    at : (t < length g.tasks) ⊎ (length g.tasks ≤ t) → All (λ k. k < length g.tasks) (after (afters_in g.tasks) t)
    at (inl low) = subst (All (λ k. k < length g.tasks)) (sym (after_in g.tasks t)) (fits.after_within t no_task low)
    at (inr past) =
        let none : after (afters_in g.tasks) t ≡ [] = after_in g.tasks t ∙ ap (λ (x : GraphTaskView). x.after) (get_or_past g.tasks t no_task past) in
        λ k d lt. absurd (omega (arith, lt, ap length none))

pub size_of : (g : GraphView) → length (afters_in g.tasks) ≡ length g.tasks
size_of g = length-map g.tasks (λ (t : GraphTaskView). t.after)

-- a task that comes after another is one of the graph
has_after : (g : GraphView) (k i : ℕ) → i < length (task_of g k).after → k < length g.tasks
has_after g k i lt = at (cases_lt k (length g.tasks))
  where
    at : (k < length g.tasks) ⊎ (length g.tasks ≤ k) → k < length g.tasks
    at (inl low) = low
    at (inr past) = absurd (omega (arith, lt, ap (λ (t : GraphTaskView). length t.after) (get_or_past g.tasks k no_task past)))

pub dependents_from : (g : GraphView) (all : Dependencies) → ListsDependents (afters_in g.tasks) (length g.tasks) all → AreDependents g all
dependents_from g all lists = record {
  size = lists.size ∙ size_of g;
  each = λ t k. (
    λ c. subst (λ us. Contains us t) (after_in g.tasks k) (lists.sound t k c).1,
    λ c. lists.complete t k (has_after g k c.0 c.1) (subst (λ us. Contains us t) (sym (after_in g.tasks k)) c),
  );
  as_often = λ t k. lists.as_often t k ∙ ap (λ (d : Dependencies). times (after d k) t) (take_all (length g.tasks) (afters_in g.tasks) (omega (arith, size_of g))) ∙ ap (λ us. times us t) (after_in g.tasks k);
}

-- the dependents of a task are in range
pub all_within : (g : GraphView) (all : Dependencies) (t : ℕ) → AreDependents g all → All (λ k. k < length g.tasks) (after all t)
all_within g all t are = λ k d lt.
    let named = (are.each t (get_or (after all t) k d)).0 (k, lt, get_or_default (after all t) k _ d lt) in
    has_after g (get_or (after all t) k d) named.0 named.1
