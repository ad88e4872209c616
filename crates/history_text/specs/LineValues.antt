-- What one line says, by how many entries stand before it.
use Rattle.std.specs.Prelude.{ℕ, ◌≡◌, ◌≢◌, ◌+◌, List, Result, Ok, Err}
use Rattle.lock_journal.specs.Names.{Entry, Change}
use Rattle.history_text.specs.Text.{entry_text, end_text}
use Rattle.history_text.specs.Fitting.{EntryFits}
use Rattle.history_text.specs.HistoryView.{entry_read, entry_with}
use Rattle.history_text.specs.declared.fails.TextFail.{TextFail}
use Rattle.history_text.specs.declared.fails.TextFail.TheVariants.{Stops, NoMemory}
use Rattle.history_text.specs.declared.lines.LineHead.{LineHead}
use Rattle.history_text.specs.declared.lines.LineHead.TheVariants as heads
use Rattle.history_text.specs.declared.lines.LineValue.{LineValue}
use Rattle.history_text.specs.declared.lines.LineValue.TheVariants as values

-- the line is that of the entry that follows
pub record IsEntryLine (count : ℕ) (line : List ℕ) (e : Entry) : Type 0 where
  pub fits : EntryFits e
  pub spelled : line ≡ entry_text (count + 1) e

-- the line is neither that of an entry that follows nor the end
pub record IsNoLine (count : ℕ) (line : List ℕ) (n : ℕ) : Type 0 where
  pub number : n ≡ count + 1
  pub no_entry : (e : Entry) → EntryFits e → line ≢ entry_text (count + 1) e
  pub no_end : line ≢ end_text count

abbrev pub IsLineOf : ℕ → List ℕ → Result LineValue TextFail → Type 0
IsLineOf count line (Ok (values.Entry e)) = IsEntryLine count line (entry_read e)
IsLineOf count line (Ok values.End) = line ≡ end_text count
IsLineOf count line (Err (Stops n)) = IsNoLine count line n
IsLineOf count line (Err NoMemory) = Unit {0}

-- the same where the changes stand elsewhere
abbrev pub IsLineInto : ℕ → List ℕ → List Change → Result LineHead TextFail → Type 0
IsLineInto count line changes (Ok (heads.Entry h)) = IsEntryLine count line (entry_with h changes)
IsLineInto count line changes (Ok heads.End) = line ≡ end_text count
IsLineInto count line changes (Err (Stops n)) = IsNoLine count line n
IsLineInto count line changes (Err NoMemory) = Unit {0}
