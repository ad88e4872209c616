-- Which history stands in a text.
use Rattle.std.specs.Prelude.{ℕ, ◌≡◌, List, ◌++◌, Result, Ok, Err}
use Rattle.history_check.specs.Naming.{ArePassedOver, Names, Breaks, BeginsHistory, BreaksBehind}
use Rattle.history_text.specs.HistoryView.{HistoryView, history_view}
use Rattle.history_text.specs.declared.heads.Version.{Version}
use Rattle.history_text.specs.Lines.{first_line}
use Rattle.history_text.specs.Grammar.{HistoryFits, text_of}
use Rattle.history_text.specs.declared.read_histories.History.{History}
use Rattle.history_text.specs.declared.fails.TextFail.{TextFail}
use Rattle.history_text.specs.declared.fails.TextFail.TheVariants.{Stops, NoMemory}

-- The text is lines that are passed over, the first line of a history of this version, and the rest.
pub record IsBehindHead (v : Version) (text rest : List ℕ) : Type 0 where
  pub passed : List ℕ
  pub over : ArePassedOver passed
  pub is : text ≡ passed ++ (first_line v ++ rest)

-- The text is that of a history, and whatever is behind it.
pub record BeginsWith (text : List ℕ) (h : HistoryView) : Type 0 where
  pub fits : HistoryFits h
  pub behind : List ℕ
  pub is : text ≡ text_of h ++ behind

abbrev pub EndsIn : List ℕ → HistoryView → Result (Unit {0}) TextFail → Type 0
EndsIn text h (Ok u) = BeginsWith text h
EndsIn text h (Err (Stops n)) = BeginsHistory text × BreaksBehind text n
EndsIn text h (Err NoMemory) = Unit {0}

-- The text is lines that are passed over, the text of this history, and whatever is behind it.
pub record HasHistory (text : List ℕ) (h : HistoryView) : Type 0 where
  pub named : List ℕ
  pub names : Names named h
  pub behind : List ℕ
  pub is : text ≡ named ++ behind

-- the history of a text, or where the text stops being one
abbrev pub IsFoundIn : List ℕ → Result History TextFail → Type 0
IsFoundIn text (Ok h) = HasHistory text (history_view h)
IsFoundIn text (Err (Stops n)) = Breaks text n
IsFoundIn text (Err NoMemory) = Unit {0}
