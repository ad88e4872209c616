-- Entries that needn't be lawful, and the first that isn't.
use Rattle.std.specs.Prelude.{ℕ, ◌≡◌, ◌+◌, List, Option, None, Some, option_map, slice_get, take}
use Rattle.lock_journal.specs.Names.{GraphView, Allowed, Lawful, Entry, entry, replay}
use Rattle.task_ordering.specs.declared.given_entries.GivenEntry.{GivenEntry}

abbrev pub entry_given : GivenEntry → Entry
entry_given e = entry e.worker e.kind (option_map (λ changes. changes.items) e.changes)

-- The entry of this number, counted from 1, isn't allowed after those before it, which are lawful.
pub record IsFirstUnlawful (g : GraphView) (entries : List Entry) (n : ℕ) : Type 0 where
  pub place : ℕ
  pub number : n ≡ place + 1
  pub entry : Entry
  pub at : slice_get entries place ≡ Some entry
  pub lawful : Lawful g (take place entries)
  pub refused : Allowed g (replay g (take place entries)) entry → ⊥

-- the number of the first entry that isn't allowed, or none where all are lawful
abbrev pub IsUnlawfulAt : GraphView → List Entry → Option ℕ → Type 0
IsUnlawfulAt g entries None = Lawful g entries
IsUnlawfulAt g entries (Some n) = IsFirstUnlawful g entries n
