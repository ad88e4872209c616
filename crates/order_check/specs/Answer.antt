-- What is answered of the order of a text's entries.
use Rattle.std.specs.Prelude.{ℕ, List, Result, Ok, Err}
use Rattle.ready_work.specs.Rank.{Dependencies}
use Rattle.task_ordering.specs.Checking.{IsFound}
use Rattle.task_ordering.specs.declared.checking.Kept.{Kept}
use Rattle.history_text.specs.Grammar.{IsHistoryText, StopsAt}
use Rattle.history_text.specs.HistoryView.{HistoryView}
use Rattle.history_text.specs.declared.fails.TextFail.{TextFail}
use Rattle.history_text.specs.declared.fails.TextFail.TheVariants.{Stops, NoMemory}

-- the text is that of a history in whose entries this is found
pub record IsFoundIn (befores : Dependencies) (text : List ℕ) (kept : Kept) : Type 0 where
  pub history : HistoryView
  pub is : IsHistoryText text history
  pub found : IsFound befores history.entries kept

-- what is answered of a text, but for memory
abbrev pub IsAnswerOf : Dependencies → List ℕ → Result Kept TextFail → Type 0
IsAnswerOf befores text (Ok kept) = IsFoundIn befores text kept
IsAnswerOf befores text (Err (Stops n)) = StopsAt text n
IsAnswerOf befores text (Err NoMemory) = Unit {0}
