-- What was seen of a run, against its book.
use Rattle.std.specs.Prelude.{ℕ, zero, suc, ◌≡◌, ◌==◌, ◌≤◌, if◌then◌else◌, Bool, false, List, [], ◌∷◌, ◌++◌, Option, None, Some, length, map}
use Rattle.std.specs.List.{All}
use Rattle.lock_journal.specs.Names.{leases_out, Change, Entry, prefix_state, Kind, Close, BookView}
use Rattle.run_watch.specs.declared.boards.Watch.{Watch}

-- the item that an entry of this kind closed, if it made its changes
abbrev pub closed_in : Option (List Change) → Kind → Option ℕ
closed_in None kind = None
closed_in (Some changes) (Close c) = Some c.unit
closed_in (Some changes) kind = None

-- the item that an entry closed, if it closed one
abbrev pub item_closed : Entry → Option ℕ
item_closed e = closed_in e.changes e.kind

abbrev pub is_this : ℕ → Option ℕ → Bool
is_this unit None = false
is_this unit (Some other) = other == unit

-- A number in the list behind an entry, in the list with it, where 0 stands for none. Where there was none it is this entry's, if so.
abbrev pub one_further : ℕ → Bool → ℕ
one_further (suc n) this = suc (suc n)
one_further zero this = if this then 1 else 0

-- the number of the last entry that closed the item, counted from 1 on, or 0
abbrev pub closing_number : ℕ → List Entry → ℕ
closing_number unit [] = 0
closing_number unit (e ∷ es) = one_further (closing_number unit es) (is_this unit (item_closed e))

-- the items among the first n units that the history closed, by rising number
abbrev pub closed_items : List Entry → ℕ → List ℕ
closed_items history zero = []
closed_items history (suc n) = closed_items history n ++ (if closing_number n history == 0 then [] else n ∷ [])

-- So many entries of the book, and the leases out after them.
pub record IsShownBy (b : BookView) (n k : ℕ) : Type 0 where
  pub within : n ≤ length b.history
  pub leases : k ≡ leases_out (prefix_state b.graph b.history n)

-- It shows so many entries of the book, the one that closed the item among them, and the leases out after them.
pub record IsWatchOf (b : BookView) (w : Watch) : Type 0 where
  pub shown : IsShownBy b w.entries w.leases
  pub closed : closing_number w.unit b.history ≤ w.entries

-- One for each item that was closed, by rising unit.
pub record AreWatchesOf (b : BookView) (ws : List Watch) : Type 0 where
  pub units : map (λ w. w.unit) ws ≡ closed_items b.history b.graph.units
  pub each : All (IsWatchOf b) ws
