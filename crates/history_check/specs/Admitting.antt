-- What admitting the entries of a history comes to: the answer of a check, and the book of a lawful history.
use Rattle.std.specs.Prelude.{ℕ, ◌≡◌, ◌⊎◌, Option, false, List, length, Some, Result, Ok, Err}
use Rattle.lock_journal.specs.Names.{GraphView, BookView, Lawful, Entry}
use Rattle.file_access.specs.SourceView.{SourceView}
use Rattle.plan_reader.specs.PlanView.{PlanView}
use Rattle.plan_reader.specs.Graph.{graph_of}
use Rattle.history_text.specs.HistoryView.{HistoryView}
use Rattle.history_check.specs.Taking.{Takes}
use Rattle.history_check.specs.CheckView.{CheckView}
use Rattle.history_check.specs.Verdict.{IsUnlawfulAt, names_other_locks}
use Rattle.history_check.specs.Naming.{Names}
use Rattle.history_check.specs.Checking.{AnswersBreak, IsJustDecided, Fails, all_given}
use Rattle.history_check.specs.declared.admitted.Admitted.{Admitted}
use Rattle.history_check.specs.declared.admitted.Admitted.TheVariants as admitted
use Rattle.history_check.specs.declared.checks.Checked.{Checked}
use Rattle.history_check.specs.declared.checks.Checked.TheVariants as checked
use Rattle.history_check.specs.declared.fails.CheckFail.{CheckFail}
use Rattle.history_check.specs.declared.inputs.TheConstants.{MAX_INPUT_BYTES}

-- what a check answers that needs no book
abbrev pub checked_of : Admitted → Checked
checked_of (admitted.Lawful b) = checked.Lawful (length b.history)
checked_of (admitted.NotLawful n) = checked.NotLawful n

-- the entries are lawful, and the book is that of the graph and of exactly these entries, and keeps them
pub record IsBookOf (g : GraphView) (es : List Entry) (b : BookView) : Type 0 where
  pub graph : b.graph ≡ g
  pub entries : b.history ≡ es
  pub whole : b.given ≡ 0
  pub lawful : Lawful g es

abbrev pub IsAdmission : GraphView → Option ℕ → List Entry → Admitted → Type 0
IsAdmission g locks es (admitted.Lawful b) = (names_other_locks locks g ≡ false) × IsBookOf g es b
IsAdmission g locks es (admitted.NotLawful n) = IsUnlawfulAt g locks es n

-- what the entries of a whole history come to, for a plan
abbrev pub IsAdmissionOf : PlanView → HistoryView → Admitted → Type 0
IsAdmissionOf p h a = IsAdmission (graph_of p h.workers h.max h.parallel) h.locks h.entries a

-- the answer, with the book that a check keeps its entries in where they are lawful
abbrev pub IsFinish : CheckView → Checked → Admitted → Type 0
IsFinish c (checked.Lawful n) a = (b : BookView) × (a ≡ admitted.Lawful b) × (b.graph ≡ c.graph) × (b.given ≡ 0) × (c.kept ≡ Some b.history)
IsFinish c (checked.NotLawful n) a = a ≡ admitted.NotLawful n

-- What came is the text of a history behind lines that are passed over, and its entries come to this.
pub record AdmitsHistory (p : PlanView) (came : List ℕ) (a : Admitted) : Type 0 where
  pub history : HistoryView
  pub names : Names came history
  pub admission : IsAdmissionOf p history a

-- what was taken, and what it comes to
abbrev pub AdmitsInput : PlanView → SourceView → SourceView → Admitted → Type 0
AdmitsInput p old new a = (came : List ℕ) × Takes old new MAX_INPUT_BYTES came
    × (AdmitsHistory p came a ⊎ AnswersBreak (all_given came new.left) (checked_of a)) × IsJustDecided came

abbrev pub HasAdmitted : PlanView → SourceView → SourceView → Result Admitted CheckFail → Type 0
HasAdmitted p old new (Ok a) = AdmitsInput p old new a
HasAdmitted p old new (Err fail) = Fails old new fail
