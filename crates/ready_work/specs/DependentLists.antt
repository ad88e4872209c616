-- The dependents of each task: the tasks that come after it.
use Rattle.std.specs.Prelude.{◌≡◌, ◌≢◌, ◌⊎◌, ◌<◌, ◌+◌, ◌==◌, ℕ, List, length, take, count_by, Contains}
use Rattle.ready_work.specs.Rank.{Dependencies, after}

-- how often a number stands in a list
abbrev pub times : List ℕ → ℕ → ℕ
times xs n = count_by (λ x. x == n) xs

-- among the dependents of u stand exactly those of the first n tasks that come after u, each as often as it names u
pub record ListsDependents (d : Dependencies) (n : ℕ) (dependents : Dependencies) : Type 0 where
  pub size : length dependents ≡ length d
  pub sound : (u x : ℕ) → Contains (after dependents u) x → (x < n) × Contains (after d x) u
  pub complete : (u x : ℕ) → x < n → Contains (after d x) u → Contains (after dependents u) x
  pub as_often : (u x : ℕ) → times (after dependents u) x ≡ times (after (take n d) x) u

-- new is old with the task among the dependents of each of these names, as often as it stands there, and of no other
pub record AddsDependent (old new : Dependencies) (names : List ℕ) (task : ℕ) : Type 0 where
  pub size : length new ≡ length old
  pub keeps : (u x : ℕ) → Contains (after old u) x → Contains (after new u) x
  pub adds : (u : ℕ) → Contains names u → Contains (after new u) task
  pub only : (u x : ℕ) → Contains (after new u) x → Contains (after old u) x ⊎ ((x ≡ task) × Contains names u)
  pub gained : (u : ℕ) → times (after new u) task ≡ times (after old u) task + times names u
  pub others : (u x : ℕ) → x ≢ task → times (after new u) x ≡ times (after old u) x
