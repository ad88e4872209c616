-- What admits entries, as contracts see it.
use Rattle.std.specs.Prelude.{ℕ, ◌≡◌, ◌+◌, List, [], ◌∷◌, ◌++◌, length, Option, Some, IfSome, option_map}
use Rattle.lock_journal.specs.Names.{GraphView, StateView, opening_of, Entry, effect, Allowed, BookView}

-- the graph, the state that the entries lead to, how many they are, and the entries where they are kept
pub record AdmitterView : Type 0 where
  pub graph : GraphView
  pub state : StateView
  pub entries : ℕ
  pub kept : Option (List Entry)

-- a book that gave none of its entries away keeps them
abbrev pub book_admits : BookView → AdmitterView
book_admits b = record { graph = b.graph; state = b.state; entries = length b.history; kept = Some b.history }

-- no entry so far
pub record IsOpened (g : GraphView) (a : AdmitterView) : Type 0 where
  pub graph : a.graph ≡ g
  pub state : a.state ≡ opening_of g
  pub entries : a.entries ≡ 0
  pub kept : IfSome a.kept (λ es. es ≡ [])

-- The entry was allowed, the state is its effect, and it stands behind the entries that are kept.
pub record Admits (old new : AdmitterView) (e : Entry) : Type 0 where
  pub graph : new.graph ≡ old.graph
  pub allowed : Allowed old.graph old.state e
  pub state : new.state ≡ effect old.state e
  pub entries : new.entries ≡ old.entries + 1
  pub kept : new.kept ≡ option_map (λ es. es ++ e ∷ []) old.kept

-- The entry wasn't allowed, and nothing is changed.
pub record Refuses (old new : AdmitterView) (e : Entry) : Type 0 where
  pub refused : ¬ Allowed old.graph old.state e
  pub same : new ≡ old
