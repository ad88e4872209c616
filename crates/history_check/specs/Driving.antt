-- What driving a run again comes to, and which files it reads.
use Rattle.std.specs.Prelude.{ℕ, ◌≡◌, ◌+◌, ◌⊎◌, List, [], ◌∷◌, ◌++◌, length, false, Option, None, Result, Ok, Err}
use Rattle.std.specs.declared.alloc.AllocError.{AllocError}
use Rattle.item_actions.specs.Files.{Folder}
use Rattle.item_actions.specs.Value.{IsHonest}
use Rattle.item_actions.specs.declared.outcomes.Outcome.{Outcome}
use Rattle.lock_journal.specs.Names.{Lawful, Entry, replay, Closed, GraphView}
use Rattle.file_access.specs.Calls.{next}
use Rattle.file_access.specs.SourceView.{SourceView}
use Rattle.plan_reader.specs.Graph.{graph_of}
use Rattle.plan_reader.specs.PlanView.{PlanView}
use Rattle.plan_reader.specs.Units.{plan_units}
use Rattle.history_text.specs.HistoryView.{HistoryView}
use Rattle.history_check.specs.Admitting.{IsBookOf}
use Rattle.history_check.specs.Checking.{Fails, IsJustDecided, all_given}
use Rattle.history_check.specs.Naming.{Breaks, Names}
use Rattle.history_check.specs.Taking.{Takes}
use Rattle.history_check.specs.Verdict.{IsUnlawfulAt, names_other_locks}
use Rattle.history_check.specs.declared.admitted.Admitted.{Admitted}
use Rattle.history_check.specs.declared.admitted.Admitted.TheVariants as admitted
use Rattle.history_check.specs.declared.fails.CheckFail.{CheckFail}
use Rattle.history_check.specs.declared.inputs.TheConstants.{MAX_INPUT_BYTES}
use Rattle.history_check.specs.Truth.{AreTrue, ClosesBehind, IsValueOf, closings_in}
use Rattle.history_check.specs.declared.again.Again.{Again}
use Rattle.history_check.specs.declared.again.Again.TheVariants.{Same, NotLawful, Differs, ReadFault}
use Rattle.history_check.specs.declared.stops.Stop.{Stop}
use Rattle.history_check.specs.declared.stops.Stop.TheVariants as stop

-- one read for each of these, in their order, each of which keeps what a read keeps
abbrev pub ReadsFor : {F : Type 0} → (F → F → Type 0) → F → F → List Closed → Type 0
ReadsFor keeps old new [] = new ≡ old
ReadsFor {F} keeps old new (d ∷ ds) = (between : F) × keeps old between × ReadsFor keeps between new ds

-- The entry of this number is the first that isn't true, and this is its unit's value. Files were read up to it.
pub record IsFirstUntrue (p : PlanView) (known : Option Folder) (es : List Entry) (Read : List Closed → Type 0) (n : ℕ) (o : Outcome) : Type 0 where
  pub before : List Entry
  pub closed : Closed
  pub there : ClosesBehind es before closed
  pub number : n ≡ length before + 1
  pub earlier : AreTrue p known before
  pub untrue : ¬ IsHonest closed.outcome o
  pub value : IsValueOf p known closed.unit o
  pub read : Read (closings_in before ++ closed ∷ [])

-- This is the unit of a closing entry, before which all are true. Its file was the last that was to be read.
pub record IsUnread (p : PlanView) (known : Option Folder) (es : List Entry) (Read : List Closed → Type 0) (u : ℕ) : Type 0 where
  pub before : List Entry
  pub closed : Closed
  pub there : ClosesBehind es before closed
  pub unit : u ≡ closed.unit
  pub earlier : AreTrue p known before
  pub read : Read (closings_in before ++ closed ∷ [])

-- files were read, and nothing is told of the answer
abbrev pub HasRead : (List Closed → Type 0) → Type 0
HasRead Read = (ds : List Closed) × Read ds

-- the entries were driven again up to their end, or to a stop
abbrev pub AreDriven : PlanView → Option Folder → List Entry → (List Closed → Type 0) → Result Unit Stop → Type 0
AreDriven p known es Read (Ok _) = AreTrue p known es × Read (closings_in es)
AreDriven p known es Read (Err (stop.Differs n o)) = IsFirstUntrue p known es Read n o
AreDriven p known es Read (Err (stop.ReadFault u)) = IsUnread p known es Read u
AreDriven p known es Read (Err stop.NoMemory) = HasRead Read

-- a read that failed ends it and is counted, and no other call on the outside failed
abbrev pub IsStopCounted : ℕ → ℕ → Result Unit Stop → Type 0
IsStopCounted old new (Err (stop.ReadFault u)) = new ≡ next old
IsStopCounted old new _ = new ≡ old

abbrev pub IsAgainCounted : {E : Type 0} → ℕ → ℕ → Result Again E → Type 0
IsAgainCounted old new (Ok (ReadFault u)) = new ≡ next old
IsAgainCounted old new _ = new ≡ old

-- What a lawful or unlawful list of entries comes to, driven again, where its history names this number of locks or none.
-- The book has exactly the entries, and its state is their replay.
abbrev pub IsAgain : PlanView → GraphView → Option ℕ → List Entry → Option Folder → (List Closed → Type 0) → Again → Type 0
IsAgain p g locks es known Read (Same b) =
    (names_other_locks locks g ≡ false) × IsBookOf g es b × (b.state ≡ replay g es) × AreTrue p known es × Read (closings_in es)
IsAgain p g locks es known Read (NotLawful n) = IsUnlawfulAt g locks es n × Read []
IsAgain p g locks es known Read (Differs n o) = (names_other_locks locks g ≡ false) × Lawful g es × IsFirstUntrue p known es Read n o
IsAgain p g locks es known Read (ReadFault u) = (names_other_locks locks g ≡ false) × Lawful g es × IsUnread p known es Read u

-- so it is with a whole history, for a plan
abbrev pub IsAgainOf : PlanView → HistoryView → Option Folder → (List Closed → Type 0) → Again → Type 0
IsAgainOf p h known Read a = IsAgain p (graph_of p h.workers h.max h.parallel) h.locks h.entries known Read a

abbrev pub IsDrivenAgain : PlanView → HistoryView → Option Folder → (List Closed → Type 0) → Result Again AllocError → Type 0
IsDrivenAgain p h known Read (Ok a) = IsAgainOf p h known Read a
IsDrivenAgain p h known Read (Err _) = HasRead Read

-- ---- of an input

-- What came is the text of a history behind lines that are passed over, and driven again it comes to this.
pub record DrivesHistory (p : PlanView) (came : List ℕ) (known : Option Folder) (Read : List Closed → Type 0) (a : Again) : Type 0 where
  pub history : HistoryView
  pub names : Names came history
  pub again : IsAgainOf p history known Read a

-- Of all bytes the text stops being a history at the number that is answered. No file was read.
pub record DrivesNone (all : List ℕ) (Read : List Closed → Type 0) (a : Again) : Type 0 where
  pub number : ℕ
  pub breaks : Breaks all number
  pub answer : a ≡ NotLawful number
  pub read : Read []

-- what was taken, and what it comes to
abbrev pub DrivesInput : PlanView → SourceView → SourceView → Option Folder → (List Closed → Type 0) → Again → Type 0
DrivesInput p old new known Read a = (came : List ℕ) × Takes old new MAX_INPUT_BYTES came
    × (DrivesHistory p came known Read a ⊎ DrivesNone (all_given came new.left) Read a) × IsJustDecided came

abbrev pub HasDriven : PlanView → SourceView → SourceView → Option Folder → (List Closed → Type 0) → Result Again CheckFail → Type 0
HasDriven p old new known Read (Ok a) = DrivesInput p old new known Read a
HasDriven p old new known Read (Err fail) = Fails old new fail × HasRead Read

-- ---- between the two

-- what a lawful run comes to where driving it again stopped
abbrev pub again_at : Stop → Result Again AllocError
again_at (stop.Differs n o) = Ok (Differs n o)
again_at (stop.ReadFault u) = Ok (ReadFault u)
again_at stop.NoMemory = Err (record {})

-- the entries that were admitted are of a graph with the plan's units, and their book keeps them
abbrev pub FitsPlan : PlanView → Admitted → Type 0
FitsPlan p (admitted.Lawful b) = (b.graph.units ≡ length (plan_units p)) × (b.given ≡ 0)
FitsPlan p (admitted.NotLawful n) = Unit {0}

-- what becomes of entries that were admitted: their book stays, and an answer that they aren't lawful too
abbrev pub GoesOn : PlanView → Option Folder → (List Closed → Type 0) → Admitted → Again → Type 0
GoesOn p known Read (admitted.Lawful b) a = IsAgain p b.graph None b.history known Read a
GoesOn p known Read (admitted.NotLawful n) a = (a ≡ NotLawful n) × Read []

abbrev pub HasGoneOn : PlanView → Option Folder → (List Closed → Type 0) → Admitted → Result Again AllocError → Type 0
HasGoneOn p known Read admitted (Ok a) = GoesOn p known Read admitted a
HasGoneOn p known Read admitted (Err _) = HasRead Read
