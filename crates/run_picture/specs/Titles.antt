-- What is told where one points at a bar.
use Rattle.std.specs.Prelude.{ℕ, ◌-◌, nat_lt, Bool, true, false, List, ◌++◌, codes, Option, Some, if◌then◌else◌, option_map}
use Rattle.std.specs.List.{slice_get}
use Rattle.lock_journal.specs.Names.{Mark, Entry, Kind, Close, Block, Unblock}
use Rattle.history_text.specs.Text.{mark_text, outcome_text}
use Rattle.run_spans.specs.declared.spans.Span.{Span}
use Rattle.run_picture.specs.Shapes.{number_words}

-- what the entry of a number is for
abbrev pub kind_at : List Entry → ℕ → Option Kind
kind_at es n = option_map (λ e. e.kind) (slice_get es (n - 1))

abbrev pub is_fetch : Option Kind → Bool
is_fetch (Some (Block u)) = true
is_fetch _ = false

abbrev pub over_text : Span → List ℕ
over_text s =
    if nat_lt 1 (s.until - s.from) then number_words (codes ", entries ") s.from ++ number_words (codes " to ") (s.until - 1)
    else number_words (codes ", entry ") s.from

-- an item's outcome, or its mark where no outcome was told
abbrev pub note_text : Option Kind → Mark → List ℕ
note_text (Some (Close c)) mark = codes ": " ++ outcome_text c.outcome
note_text (Some (Unblock (Some c))) mark = codes ": " ++ outcome_text c.outcome
note_text _ mark = codes ": " ++ mark_text mark

abbrev pub at_worker : List ℕ → ℕ → List ℕ → Span → List ℕ
at_worker word n between s = number_words word n ++ number_words between s.worker.0 ++ over_text s
