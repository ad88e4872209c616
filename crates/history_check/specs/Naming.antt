-- Which text an input names.
use Rattle.std.specs.Prelude.{ℕ, ◌≡◌, ◌≢◌, ◌⊎◌, true, List, ◌++◌, length}
use Rattle.std.specs.List.{AllByRecursion, concat}
use Rattle.lock_transforms.specs.Entry.{Entry}
use Rattle.history_text.specs.Text.{entry_text, end_text}
use Rattle.history_text.specs.Fitting.{EntryFits}
use Rattle.history_text.specs.HistoryView.{HistoryView}
use Rattle.history_text.specs.declared.heads.Version.{Version}
use Rattle.history_text.specs.Lines.{is_unbroken, IsLine, IsNoFirst, first_line, next_number}
use Rattle.history_text.specs.Grammar.{HistoryFits, IsHistoryText, StopsInHead, lines_of}

-- a line that isn't the first of a history
pub record IsOtherLine (line : List ℕ) : Type 0 where
  pub whole : IsLine line
  pub other : IsNoFirst line

-- whole lines, none of which is the first of a history
pub record ArePassedOver (passed : List ℕ) : Type 0 where
  pub lines : List (List ℕ)
  pub others : AllByRecursion IsOtherLine lines
  pub is : passed ≡ concat lines

-- the bytes are lines that are passed over, and the text of this history
pub record Names (bytes : List ℕ) (h : HistoryView) : Type 0 where
  pub passed : List ℕ
  pub over : ArePassedOver passed
  pub text : List ℕ
  pub history : IsHistoryText text h
  pub is : bytes ≡ passed ++ text

-- the first line of a history is in front
pub record BeginsHistory (text : List ℕ) : Type 0 where
  pub version : Version
  pub more : List ℕ
  pub is : text ≡ first_line version ++ more

-- The text begins with these lines, but neither the line of one more entry nor the end follows, whatever is behind it.
pub record BreaksBehind (text : List ℕ) (n : ℕ) : Type 0 where
  pub before : HistoryView
  pub rest : List ℕ
  pub fits : HistoryFits before
  pub is : text ≡ lines_of before ++ rest
  pub number : n ≡ next_number before
  pub no_entry : (e : Entry) (more : List ℕ) → EntryFits e → rest ≢ entry_text n e ++ more
  pub no_end : (more : List ℕ) → rest ≢ end_text (length before.entries) ++ more

-- Behind lines that are passed over a text begins, or no line of a history's does. The text stops being a history at n, and none stands in its front.
pub record Breaks (bytes : List ℕ) (n : ℕ) : Type 0 where
  pub passed : List ℕ
  pub over : ArePassedOver passed
  pub text : List ℕ
  pub begins : BeginsHistory text ⊎ (is_unbroken text ≡ true)
  pub stops : StopsInHead text n ⊎ BreaksBehind text n
  pub is : bytes ≡ passed ++ text
