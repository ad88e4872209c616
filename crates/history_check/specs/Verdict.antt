-- What is to be answered of the entries of a history.
use Rattle.std.specs.Prelude.{ℕ, ◌≡◌, ◌+◌, ◌⊎◌, nat_eq, not, Bool, true, false, Option, None, Some, List, ◌∷◌, ◌++◌, length}
use Rattle.lock_journal.specs.Names.{GraphView, Entry, replay, Allowed, Lawful}
use Rattle.plan_reader.specs.PlanView.{PlanView}
use Rattle.plan_reader.specs.Graph.{graph_of}
use Rattle.history_text.specs.HistoryView.{HistoryView}
use Rattle.history_check.specs.declared.checks.Checked.{Checked}
use Rattle.history_check.specs.declared.checks.Checked.TheVariants as checked

-- The entry of this number isn't allowed after those before it, which are lawful.
pub record IsFirstUnlawful (g : GraphView) (es : List Entry) (n : ℕ) : Type 0 where
  pub before : List Entry
  pub entry : Entry
  pub behind : List Entry
  pub is : es ≡ before ++ entry ∷ behind
  pub number : n ≡ length before + 1
  pub lawful : Lawful g before
  pub refused : ¬ Allowed g (replay g before) entry

-- whether a history that names this number of locks or none names another than the graph has
abbrev pub names_other_locks : Option ℕ → GraphView → Bool
names_other_locks None g = false
names_other_locks (Some l) g = not (nat_eq l g.locks)

-- where the history isn't lawful: 0 where it names another number of locks, and else the number of its first entry that isn't allowed
abbrev pub IsUnlawfulAt : GraphView → Option ℕ → List Entry → ℕ → Type 0
IsUnlawfulAt g locks es n = ((names_other_locks locks g ≡ true) × (n ≡ 0)) ⊎ ((names_other_locks locks g ≡ false) × IsFirstUnlawful g es n)

abbrev pub IsVerdict : GraphView → Option ℕ → List Entry → Checked → Type 0
IsVerdict g locks es (checked.Lawful n) = (names_other_locks locks g ≡ false) × Lawful g es × (n ≡ length es)
IsVerdict g locks es (checked.NotLawful n) = IsUnlawfulAt g locks es n

-- what is to be answered of a whole history, for a plan
abbrev pub IsAnswerTo : PlanView → HistoryView → Checked → Type 0
IsAnswerTo p h a = IsVerdict (graph_of p h.workers h.max h.parallel) h.locks h.entries a
