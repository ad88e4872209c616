-- A history that was read, without where its lists lie in memory.
use Rattle.std.specs.Prelude.{ℕ, Bool, List, map, Option, Some, None, if◌then◌else◌}
use Rattle.std.specs.Option.{option_map}
use Rattle.lock_journal.specs.Names.{BookView, Entry, entry, Change}
use Rattle.history_text.specs.declared.read_histories.EntryHead.{EntryHead}
use Rattle.history_text.specs.declared.read_histories.History.{History}
use Rattle.history_text.specs.declared.read_histories.HistoryEntry.{HistoryEntry}

pub record HistoryView : Type 0 where
  pub workers : ℕ
  pub max : ℕ
  pub parallel : Bool
  pub locks : Option ℕ
  pub entries : List Entry

abbrev pub entry_read : HistoryEntry → Entry
entry_read e = entry e.worker e.kind (option_map (λ cs. cs.items) e.changes)

-- the changes of an entry that finished, or none
abbrev pub changes_of : Bool → List Change → Option (List Change)
changes_of finished changes = if finished then Some changes else None

abbrev pub entry_with : EntryHead → List Change → Entry
entry_with h changes = entry h.worker h.kind (changes_of h.is_finished changes)

abbrev pub history_view : History → HistoryView
history_view h = record { workers = h.workers; max = h.max; parallel = h.parallel; locks = h.locks; entries = map entry_read h.entries.items }

-- the history of a book, with its graph's number of locks
abbrev pub book_history : BookView → Bool → HistoryView
book_history b parallel = record { workers = b.graph.workers; max = b.graph.max_leases; parallel = parallel; locks = Some b.graph.locks; entries = b.history }
