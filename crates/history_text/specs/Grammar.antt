-- The history text as a relation between a text and a value, and where a text stops being one.
use Rattle.std.specs.Prelude.{ℕ, ◌≡◌, ◌≢◌, ◌+◌, List, ◌++◌, length, ◌⊎◌, Result, Ok, Err}
use Rattle.lock_transforms.specs.Entry.{Entry}
use Rattle.history_text.specs.Text.{numbered, head_text, entry_text, end_text, history_text}
use Rattle.history_text.specs.Fitting.{HeadFits, EntriesFit, EntryFits}
use Rattle.history_text.specs.HistoryView.{HistoryView, history_view}
use Rattle.history_text.specs.Lines.{next_number}
use Rattle.history_text.specs.declared.read_histories.History.{History}
use Rattle.history_text.specs.declared.fails.TextFail.{TextFail}
use Rattle.history_text.specs.declared.fails.TextFail.TheVariants.{Stops, NoMemory}

pub record HistoryFits (h : HistoryView) : Type 0 where
  pub head : HeadFits h.workers h.max h.locks
  pub entries : EntriesFit h.entries

abbrev pub head_of : HistoryView → List ℕ
head_of h = head_text h.workers h.max h.parallel h.locks

-- all lines but the end
abbrev pub lines_of : HistoryView → List ℕ
lines_of h = head_of h ++ numbered entry_text 1 h.entries

abbrev pub text_of : HistoryView → List ℕ
text_of h = history_text h.workers h.max h.parallel h.locks h.entries

-- the grammar: a text and its value
pub record IsHistoryText (text : List ℕ) (h : HistoryView) : Type 0 where
  pub fits : HistoryFits h
  pub is : text ≡ text_of h

-- the text doesn't begin with a head
pub record StopsInHead (text : List ℕ) (n : ℕ) : Type 0 where
  pub number : n ≡ 0
  pub no_head : (h : HistoryView) (rest : List ℕ) → HeadFits h.workers h.max h.locks → text ≢ head_of h ++ rest

-- the text begins with these lines, but neither the line of one more entry nor exactly the end follows
pub record StopsBehind (text : List ℕ) (n : ℕ) : Type 0 where
  pub before : HistoryView
  pub rest : List ℕ
  pub fits : HistoryFits before
  pub is : text ≡ lines_of before ++ rest
  pub number : n ≡ next_number before
  pub no_entry : (e : Entry) (more : List ℕ) → EntryFits e → rest ≢ entry_text n e ++ more
  pub no_end : rest ≢ end_text (length before.entries)

-- the number of the entry for which the first wrong or lacking line stands, or 0 for the head
abbrev pub StopsAt : List ℕ → ℕ → Type 0
StopsAt text n = StopsInHead text n ⊎ StopsBehind text n

-- what reading a text answers, but for memory
abbrev pub IsReadFrom : List ℕ → Result History TextFail → Type 0
IsReadFrom text (Ok h) = IsHistoryText text (history_view h)
IsReadFrom text (Err (Stops n)) = StopsAt text n
IsReadFrom text (Err NoMemory) = Unit {0}

-- what reading the text of a value answers, but for memory: the value
abbrev pub GivesBack : HistoryView → Result History TextFail → Type 0
GivesBack h (Ok k) = history_view k ≡ h
GivesBack h (Err (Stops n)) = ⊥
GivesBack h (Err NoMemory) = Unit {0}
