-- What is refused, and what is accepted.
use Rattle.std.specs.Prelude.{ℕ, ◌<◌, ◌≤◌, List, length, All, Some, None, ⊤}
use Rattle.task_ordering.specs.Tasks.{after, must_after, finalized_by, IsToRun, IsBefore}
use Rattle.task_ordering.specs.Orders.{HasRank}
use Rattle.task_ordering.specs.declared.tasks.OrderTask.{OrderTask}
use Rattle.task_ordering.specs.declared.limits.TheConstants.{MAX_NUMBERS}
use Rattle.task_ordering.specs.declared.fails.OrderFail.{OrderFail}
use Rattle.task_ordering.specs.declared.fails.OrderFail.TheVariants.{Refused, NoMemory}
use Rattle.task_ordering.specs.declared.fails.OrderRefusal.{OrderRefusal}
use Rattle.task_ordering.specs.declared.fails.OrderRefusal.TheVariants.{TooMany, NoSuchTask, Cycle}

pub record HasShortLists (task : OrderTask) : Type 0 where
  pub after : length task.after.items ≤ MAX_NUMBERS
  pub must_after : length task.must_after.items ≤ MAX_NUMBERS
  pub finalized_by : length task.finalized_by.items ≤ MAX_NUMBERS

-- neither the tasks nor those asked for are too many, and no list has too many numbers
pub record Fits (tasks : List OrderTask) (asked : List ℕ) : Type 0 where
  pub few : length tasks ≤ MAX_NUMBERS
  pub few_asked : length asked ≤ MAX_NUMBERS
  pub short : All HasShortLists tasks

-- each number is that of a task
abbrev pub NameTasks : List OrderTask → List ℕ → Type 0
NameTasks tasks numbers = All (λ u. u < length tasks) numbers

-- each number in the lists of t is that of a task
pub record NamesTasks (tasks : List OrderTask) (t : ℕ) : Type 0 where
  pub after : NameTasks tasks (after tasks t)
  pub must_after : NameTasks tasks (must_after tasks t)
  pub finalized_by : NameTasks tasks (finalized_by tasks t)

abbrev pub AllNameTasks : List OrderTask → Type 0
AllNameTasks tasks = (t : ℕ) → t < length tasks → NamesTasks tasks t

-- t is the first task with a number in its lists that is that of no task
pub record IsFirstStray (tasks : List OrderTask) (t : ℕ) : Type 0 where
  pub is_task : t < length tasks
  pub stray : NamesTasks tasks t → ⊥
  pub before : (u : ℕ) → u < t → NamesTasks tasks u

abbrev pub HasRankAmong : List OrderTask → List ℕ → ℕ → Type 0
HasRankAmong tasks asked t = HasRank (IsToRun tasks asked) (IsBefore tasks asked) t

-- t is the lowest of the tasks to run that have no rank
pub record IsLowestUnranked (tasks : List OrderTask) (asked : List ℕ) (t : ℕ) : Type 0 where
  pub is_to_run : IsToRun tasks asked t
  pub unranked : HasRankAmong tasks asked t → ⊥
  pub before : (u : ℕ) → u < t → IsToRun tasks asked u → HasRankAmong tasks asked u

-- there are not too many numbers, and each is that of a task
pub record AreNamed (tasks : List OrderTask) (asked : List ℕ) : Type 0 where
  pub fits : Fits tasks asked
  pub lists : AllNameTasks tasks
  pub numbers : NameTasks tasks asked

-- the first cause of a refusal, in their order
abbrev pub IsRefused : List OrderTask → List ℕ → OrderRefusal → Type 0
IsRefused tasks asked TooMany = Fits tasks asked → ⊥
IsRefused tasks asked (NoSuchTask (Some t)) = Fits tasks asked × IsFirstStray tasks t
IsRefused tasks asked (NoSuchTask None) = Fits tasks asked × AllNameTasks tasks × (NameTasks tasks asked → ⊥)
IsRefused tasks asked (Cycle t) = AreNamed tasks asked × IsLowestUnranked tasks asked t

-- nothing is refused
pub record IsAccepted (tasks : List OrderTask) (asked : List ℕ) : Type 0 where
  pub named : AreNamed tasks asked
  pub ranked : (t : ℕ) → IsToRun tasks asked t → HasRankAmong tasks asked t

-- an error says why; of want of memory nothing is known
abbrev pub IsFailedFor : List OrderTask → List ℕ → OrderFail → Type 0
IsFailedFor tasks asked (Refused refusal) = IsRefused tasks asked refusal
IsFailedFor tasks asked NoMemory = ⊤
