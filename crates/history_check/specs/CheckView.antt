-- A check, as contracts see it, and of which history it is.
use Rattle.std.specs.Prelude.{ℕ, ◌≡◌, ◌+◌, ◌<◌, ◌≤◌, ◌⊎◌, Bool, List, [], ◌∷◌, ◌++◌, length, Option, IfSome, option_map, Result, Ok, Err}
use Rattle.lock_journal.specs.Names.{GraphView, StateView, opening_of, Entry, effect, replay, Allowed, Lawful}
use Rattle.plan_reader.specs.PlanView.{PlanView}
use Rattle.plan_reader.specs.Graph.{graph_of}
use Rattle.history_text.specs.HistoryView.{HistoryView}
use Rattle.history_text.specs.Text.{end_text}
use Rattle.history_text.specs.Lines.{Opens, OpensNone, TakesLine}
use Rattle.history_text.specs.declared.read_histories.HistoryLine.{HistoryLine}
use Rattle.history_text.specs.declared.read_histories.HistoryLine.TheVariants as lines
use Rattle.history_text.specs.declared.fails.TextFail.{TextFail}
use Rattle.history_text.specs.declared.fails.TextFail.TheVariants.{Stops, NoMemory}
use Rattle.history_text.specs.declared.heads.Version.{Version}
use Rattle.history_check.specs.declared.lines.TheConstants.{ENTRY_OVER_END}
use Rattle.history_check.specs.AdmitterView.{AdmitterView}
use Rattle.history_check.specs.Verdict.{names_other_locks}

-- the graph, the state that the entries before the first that isn't allowed lead to, how many those are, those entries where
-- they are kept, how many entries came, and whether the history names another number of locks than the graph has
pub record CheckView : Type 0 where
  pub graph : GraphView
  pub state : StateView
  pub admitted : ℕ
  pub kept : Option (List Entry)
  pub count : ℕ
  pub other_locks : Bool

-- the check whose entries this admitted
abbrev pub check_of : AdmitterView → ℕ → Bool → CheckView
check_of a count other_locks = record { graph = a.graph; state = a.state; admitted = a.entries; kept = a.kept; count = count; other_locks = other_locks }

-- a check of no entry, for a history that names this number of locks or none
pub record IsFresh (g : GraphView) (locks : Option ℕ) (c : CheckView) : Type 0 where
  pub graph : c.graph ≡ g
  pub state : c.state ≡ opening_of g
  pub admitted : c.admitted ≡ 0
  pub kept : IfSome c.kept (λ es. es ≡ [])
  pub count : c.count ≡ 0
  pub other_locks : c.other_locks ≡ names_other_locks locks g

-- no entry, or the first of these isn't allowed
abbrev pub BeginsUnlawful : GraphView → List Entry → List Entry → Type 0
BeginsUnlawful g admitted [] = Unit {0}
BeginsUnlawful g admitted (e ∷ es) = ¬ Allowed g (replay g admitted) e

-- The check is of this history, for the plan: its state is what the first entries lead to, which are lawful, and behind them
-- there is none, or one that isn't allowed.
pub record IsCheckOf (p : PlanView) (h : HistoryView) (c : CheckView) : Type 0 where
  pub graph : c.graph ≡ graph_of p h.workers h.max h.parallel
  pub other_locks : c.other_locks ≡ names_other_locks h.locks c.graph
  pub count : c.count ≡ length h.entries
  pub front : List Entry
  pub behind : List Entry
  pub entries : h.entries ≡ front ++ behind
  pub lawful : Lawful c.graph front
  pub state : c.state ≡ replay c.graph front
  pub admitted : c.admitted ≡ length front
  pub kept : IfSome c.kept (λ es. es ≡ front)
  pub refused : BeginsUnlawful c.graph front behind

abbrev pub OpensCheck : PlanView → Version → List ℕ → Result CheckView TextFail → Type 0
OpensCheck p v line (Ok c) = (h : HistoryView) × Opens v line h × IsCheckOf p h c × (c.count ≡ 0)
OpensCheck p v line (Err (Stops n)) = (n ≡ 0) × OpensNone v line
OpensCheck p v line (Err NoMemory) = Unit {0}

-- what one more line makes of the history, of which the check then is
abbrev pub CheckGoesOn : PlanView → HistoryView → List ℕ → CheckView → Result HistoryLine TextFail → Type 0
CheckGoesOn p h line new result = (k : HistoryView) × TakesLine h line k result × IsCheckOf p k new

-- an entry is counted, and its line is longer than the end line in its place would be
abbrev pub IsCounted : CheckView → List ℕ → CheckView → Result HistoryLine TextFail → Type 0
IsCounted old line new (Ok lines.Entry) = (new.count ≡ old.count + 1) × (length (end_text old.count) + ENTRY_OVER_END ≤ length line)
IsCounted old line new (Ok lines.End) = new ≡ old
IsCounted old line new (Err _) = new ≡ old

-- the entry is allowed, and was added
pub record AdmitsNext (old new : CheckView) (e : Entry) : Type 0 where
  pub all : old.admitted ≡ old.count
  pub allowed : Allowed old.graph old.state e
  pub state : new.state ≡ effect old.state e
  pub admitted : new.admitted ≡ old.admitted + 1
  pub kept : new.kept ≡ option_map (λ es. es ++ e ∷ []) old.kept

-- what was admitted before is all that is
pub record Stays (old new : CheckView) : Type 0 where
  pub state : new.state ≡ old.state
  pub admitted : new.admitted ≡ old.admitted
  pub kept : new.kept ≡ old.kept

-- the entry is the first that isn't allowed
pub record RefusesEntry (old new : CheckView) (e : Entry) : Type 0 where
  pub all : old.admitted ≡ old.count
  pub refused : ¬ Allowed old.graph old.state e
  pub stays : Stays old new

-- an entry before it wasn't allowed
pub record Passes (old new : CheckView) : Type 0 where
  pub fewer : old.admitted < old.count
  pub stays : Stays old new

-- One more entry came.
pub record Adds (old new : CheckView) (e : Entry) : Type 0 where
  pub graph : new.graph ≡ old.graph
  pub other_locks : new.other_locks ≡ old.other_locks
  pub count : new.count ≡ old.count + 1
  pub entry : AdmitsNext old new e ⊎ RefusesEntry old new e ⊎ Passes old new
