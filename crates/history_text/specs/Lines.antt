-- Lines: where one ends, and what each of a history's says.
use Rattle.std.specs.Prelude.{ℕ, ◌≡◌, ◌≢◌, ◌+◌, List, [], ◌∷◌, ◌++◌, length, codes, decimal, Option, Some, None, Bool, true, not, ◌⊎◌}
use Rattle.std.specs.Prelude.{nat_eq, Result, Ok, Err}
use Rattle.std.specs.List.{list_all}
use Rattle.lock_transforms.specs.Entry.{Entry}
use Rattle.history_text.specs.Text.{parallel_text, locks_text, entry_text, end_text}
use Rattle.history_text.specs.Fitting.{HeadFits, EntryFits}
use Rattle.history_text.specs.HistoryView.{HistoryView}
use Rattle.history_text.specs.declared.heads.Settings.{Settings}
use Rattle.history_text.specs.declared.heads.Version.{Version}
use Rattle.history_text.specs.declared.heads.Version.TheVariants.{One, Two}
use Rattle.history_text.specs.declared.fails.ReadFail.{ReadFail}
use Rattle.history_text.specs.declared.fails.ReadFail.TheVariants.{Wrong, Memory}
use Rattle.history_text.specs.declared.fails.TextFail.{TextFail}
use Rattle.history_text.specs.declared.fails.TextFail.TheVariants.{Stops, NoMemory}
use Rattle.history_text.specs.declared.read_histories.HistoryLine.{HistoryLine}
use Rattle.history_text.specs.declared.read_histories.HistoryLine.TheVariants as lines

-- no line ends in the text
abbrev pub is_unbroken : List ℕ → Bool
is_unbroken text = list_all (λ b. not (nat_eq b 10)) text

-- one line, with its end
pub record IsLine (line : List ℕ) : Type 0 where
  pub front : List ℕ
  pub unbroken : is_unbroken front ≡ true
  pub is : line ≡ front ++ codes "\n"

-- the text behind the line is more: the line has its end, or is the last piece of the text
abbrev pub IsLineBefore : List ℕ → List ℕ → Type 0
IsLineBefore line more = IsLine line ⊎ ((is_unbroken line ≡ true) × (more ≡ []))

-- the first line of a text, and what is behind it
pub record BeginsWithLine (text line more : List ℕ) : Type 0 where
  pub is : text ≡ line ++ more
  pub line_before : IsLineBefore line more

abbrev pub first_line : Version → List ℕ
first_line One = codes "history 1\n"
first_line Two = codes "history 2\n"

-- the line is no first line of a history
abbrev pub IsNoFirst : List ℕ → Type 0
IsNoFirst line = (v : Version) → line ≢ first_line v

-- a text of version 2 names a number of locks, and one of version 1 none
abbrev pub version_of : Option ℕ → Version
version_of None = One
version_of (Some l) = Two

abbrev pub second_line : ℕ → ℕ → Bool → Option ℕ → List ℕ
second_line workers max_leases parallel locks = codes "workers " ++ decimal workers ++ codes " max " ++ decimal max_leases
    ++ codes " parallel " ++ parallel_text parallel ++ locks_text locks ++ codes "\n"

-- the second line of a history of this version, which has no entries yet
pub record Opens (v : Version) (line : List ℕ) (h : HistoryView) : Type 0 where
  pub spelled : line ≡ second_line h.workers h.max h.parallel h.locks
  pub fits : HeadFits h.workers h.max h.locks
  pub version : version_of h.locks ≡ v
  pub no_entries : h.entries ≡ []

-- the line is no second line of a history of this version
abbrev pub OpensNone : Version → List ℕ → Type 0
OpensNone v line = (workers max_leases : ℕ) (parallel : Bool) (locks : Option ℕ) → HeadFits workers max_leases locks → version_of locks ≡ v
    → line ≢ second_line workers max_leases parallel locks

-- what the second line says
pub record IsSaidBy (v : Version) (line : List ℕ) (s : Settings) : Type 0 where
  pub spelled : line ≡ second_line s.workers s.max s.parallel s.locks
  pub fits : HeadFits s.workers s.max s.locks
  pub version : version_of s.locks ≡ v

-- the line is spelled from a value that fits, or from none
abbrev pub IsReadAs : {X Y : Type 0} → (Y → List ℕ) → (Y → Type 0) → List ℕ → (X → Y) → Result X ReadFail → Type 0
IsReadAs spell fits line view (Ok x) = (line ≡ spell (view x)) × fits (view x)
IsReadAs {X} {Y} spell fits line view (Err Wrong) = (y : Y) → fits y → line ≢ spell y
IsReadAs spell fits line view (Err Memory) = Unit {0}

-- the number of the entry that would follow
abbrev pub next_number : HistoryView → ℕ
next_number h = length h.entries + 1

-- the line is that of the entry that follows, and new has it
pub record AddsEntry (old : HistoryView) (line : List ℕ) (new : HistoryView) : Type 0 where
  pub entry : Entry
  pub fits : EntryFits entry
  pub spelled : line ≡ entry_text (next_number old) entry
  pub is : new ≡ record old { entries = old.entries ++ entry ∷ [] }

-- the line is the end of the history
pub record Ends (old : HistoryView) (line : List ℕ) (new : HistoryView) : Type 0 where
  pub spelled : line ≡ end_text (length old.entries)
  pub kept : new ≡ old

-- the line is neither
pub record IsWrongAfter (h : HistoryView) (line : List ℕ) : Type 0 where
  pub no_entry : (e : Entry) → EntryFits e → line ≢ entry_text (next_number h) e
  pub no_end : line ≢ end_text (length h.entries)

pub record StopsIt (old : HistoryView) (line : List ℕ) (new : HistoryView) (n : ℕ) : Type 0 where
  pub number : n ≡ next_number old
  pub wrong : IsWrongAfter old line
  pub kept : new ≡ old

-- what is said of one more line
abbrev pub TakesLine : HistoryView → List ℕ → HistoryView → Result HistoryLine TextFail → Type 0
TakesLine old line new (Ok lines.Entry) = AddsEntry old line new
TakesLine old line new (Ok lines.End) = Ends old line new
TakesLine old line new (Err (Stops n)) = StopsIt old line new n
TakesLine old line new (Err NoMemory) = new ≡ old
