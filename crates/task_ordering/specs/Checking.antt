-- Whether the entries of a history keep what stands before what.
use Rattle.std.specs.Prelude.{ℕ, ◌≡◌, ◌+◌, Bool, false, List, Option, Some, None, take, slice_get, slice_index_or, is_some}
use Rattle.std.specs.Prelude.{if◌then◌else◌, Contains}
use Rattle.lock_journal.specs.Names.{Entry, Kind, Start, Skip, End}
use Rattle.ready_work.specs.Lowest.{IsLowest, IsNone}
use Rattle.ready_work.specs.Rank.{Dependencies}
use Rattle.task_ordering.specs.Befores.{IsListedBefore}
use Rattle.task_ordering.specs.declared.checking.Kept.{Kept}
use Rattle.task_ordering.specs.declared.checking.Kept.TheVariants as found

abbrev pub task_started : Kind → Option ℕ
task_started (Start t) = Some t
task_started _ = None

abbrev pub task_ended : Kind → Option ℕ
task_ended (End t) = Some t
task_ended (Skip t) = Some t
task_ended _ = None

-- the task that a finished entry starts
abbrev pub started_by : Entry → Option ℕ
started_by e = if is_some e.changes then task_started e.kind else None

-- the task that a finished entry ends or skips
abbrev pub ended_by : Entry → Option ℕ
ended_by e = if is_some e.changes then task_ended e.kind else None

-- an entry of the history ends or skips the task
pub record HasEnded (history : List Entry) (t : ℕ) : Type 0 where
  pub entry : Entry
  pub among : Contains history entry
  pub ends : ended_by entry ≡ Some t

-- the entry of this number, counted from 1, starts a task of which one that stands before it hasn't ended by then
pub record IsEarly (befores : Dependencies) (history : List Entry) (n : ℕ) : Type 0 where
  pub place : ℕ
  pub number : n ≡ place + 1
  pub entry : Entry
  pub at : slice_get history place ≡ Some entry
  pub task : ℕ
  pub starts : started_by entry ≡ Some task
  pub first : ℕ
  pub before : IsListedBefore befores first task
  pub unended : HasEnded (take place history) first → ⊥

-- the first entry that is early, or that there is none
abbrev pub IsFound : Dependencies → List Entry → Kept → Type 0
IsFound befores history found.Kept = IsNone (IsEarly befores history)
IsFound befores history (found.Broken n) = IsLowest (IsEarly befores history) n

-- the entry starts a task while one that stands before it has no mark
pub record StartsEarly (befores : Dependencies) (marks : List Bool) (e : Entry) : Type 0 where
  pub task : ℕ
  pub starts : started_by e ≡ Some task
  pub first : ℕ
  pub before : IsListedBefore befores first task
  pub unmarked : slice_index_or marks first false ≡ false
