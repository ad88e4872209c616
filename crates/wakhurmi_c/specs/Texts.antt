-- The lines of a history's text: the head, one for each entry, and the end. And what writing one into a buffer leaves.
use Rattle.std.specs.Prelude.{◌≡◌, ◌≤◌, ◌<◌, ℕ, ◌+◌, ◌-◌, ◌==◌, true, List, [], ◌++◌, length, drop, slice_get, Option, Some, None, ⊤, if◌then◌else◌}
use Rattle.lock_journal.specs.Names.{Entry, BookView}
use Rattle.history_text.specs.Text.{end_text, entry_text, head_text}
use Rattle.wakhurmi_c.specs.declared.answers.Answer.{Answer}
use Rattle.wakhurmi_c.specs.declared.answers.Answer.TheVariants.{NoMemory, BadNumber}

abbrev pub line_of : ℕ → Option Entry → List ℕ
line_of n (Some e) = entry_text n e
line_of n None = []

-- what stands behind the head: a line for each entry, numbered from 1, and the end
abbrev pub line_behind : BookView → ℕ → List ℕ
line_behind book place = if place == length book.history then end_text (length book.history)
    else line_of (place + 1) (slice_get book.history place)

-- a line of a history's text
abbrev pub line_text : BookView → ℕ → List ℕ
line_text book n = if n == 0 then head_text book.graph.workers book.graph.max_leases true (Some book.graph.locks)
    else line_behind book (n - 1)

-- the first line of what comes behind so many entries: line 0 is the head, and an entry's line has its number
abbrev pub first_line : ℕ → ℕ
first_line before = if before == 0 then 0 else before + 1

-- the lines that a book has, from 0 on: those that were taken while its service ran aren't among them
abbrev pub kept_text : BookView → ℕ → List ℕ
kept_text book n = line_text book (first_line book.given + n)

-- The text stands at the front of a buffer, which is else as it was, and so many bytes are told.
pub record IsWritten (text old new : List ℕ) (count : ℕ) : Type 0 where
  pub count_is : count ≡ length text
  pub fits : length text ≤ length old
  pub buffer : new ≡ text ++ drop (length text) old

-- Why a text isn't written into so many bytes.
abbrev pub WhyUnwritten : ℕ → List ℕ → Answer → Type 0
WhyUnwritten room text BadNumber = room < length text
WhyUnwritten room text NoMemory = ⊤
WhyUnwritten room text _ = ⊥
