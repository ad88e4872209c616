-- The ledger of a history, and what is known of it.
use Rattle.std.specs.Prelude.{ℕ, ◌≡◌, ◌==◌, ◌<◌, ◌≤◌, true, List, [], ◌∷◌, ◌++◌, length, None, MatchBool}
use Rattle.std.specs.List.{All}
use mathlib.Core.List.{IsPrefix}
use Rattle.logbook.specs.Pages.{Cell, Step, View, Book, Named}
use Rattle.lock_journal.specs.Names.{GraphView, opening_of, leases_out, Lawful, replay, BookView}

-- The history goes on from the other, of the same graph.
pub record IsLater (old new : BookView) : Type 0 where
  pub graph : new.graph ≡ old.graph
  pub history : IsPrefix old.history new.history

abbrev pub no_graph : GraphView
no_graph = record { locks = 0; all = None; workers = 0; max_leases = 0; units = 0; tasks = []; actions = [] }

abbrev pub no_book : BookView
no_book = record { graph = no_graph; state = opening_of no_graph; history = []; given = 0; spare_entries = 0; spare_changes = 0 }

abbrev pub last_book : List BookView → BookView
last_book [] = no_book
last_book (b ∷ []) = b
last_book (b ∷ c ∷ bs) = last_book (c ∷ bs)

-- the book may come after all of these
abbrev pub MayFollow : List BookView → BookView → Type 0
MayFollow log book = All (λ b. IsLater b book) log

-- each is a beginning of the last one
abbrev pub IsChain : List BookView → Type 0
IsChain log = MayFollow log (last_book log)

-- The first word says how many books there are, and each is a beginning of the last one. The second is not used.
pub record IsKept (cells : List Cell) (log : List BookView) : Type 0 where
  pub words : cells ≡ (length log, true) ∷ (0, true) ∷ []
  pub chain : IsChain log

abbrev pub head_of : Book → Named
head_of b = record { tracked = true; key = 0; book = b }

-- The book was added to all that were known, or there were more than that.
abbrev pub Adds : Step BookView → View BookView ℕ → ℕ → View BookView ℕ → Type 0
Adds s v found w = MatchBool (found == s.old) (w.0 ≡ v.0 ++ s.ask ∷ []) (Unit {0})

-- the history is lawful, and the state is what it leads to
pub record IsSound (book : BookView) : Type 0 where
  pub lawful : Lawful book.graph book.history
  pub replays : book.state ≡ replay book.graph book.history

-- which ledger it is, and the books that it was seen to have
pub record ReachView : Type 0 where
  pub ledger : Book
  pub log : List BookView

-- The numbers are those of the last book.
pub record IsCounted (n k : ℕ) (log : List BookView) : Type 0 where
  pub entries : n ≡ length (last_book log).history
  pub leases : k ≡ leases_out (last_book log).state
  pub few : k ≤ (last_book log).graph.max_leases
  pub some : 0 < length log
  pub chain : IsChain log
  pub sound : IsSound (last_book log)

-- the history of the second goes on from that of the first
abbrev pub Exceeds : ReachView → ReachView → Type 0
Exceeds old new = IsLater (last_book old.log) (last_book new.log)
