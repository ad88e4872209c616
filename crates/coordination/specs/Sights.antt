-- What workers have seen of the one book.
use Rattle.std.specs.Prelude.{ℕ, zero, suc, false, true, List, [], ◌∷◌, Option, Some, None}
use Rattle.logbook.specs.Pages.{Book as Ledger}
use Rattle.lock_journal.specs.Names.{GraphView, opening_of, WorkerId, BookView}
use Rattle.coordination.specs.declared.rule.Sight.{Sight}
use Rattle.coordination.specs.declared.rule.SeatView.{SeatView}
use Rattle.coordination.specs.Kept.{KeptView}

abbrev pub sight : ℕ → BookView → Sight
sight w book = record { worker = record { 0 = w }; seen = book; stopped = false; stopped_by = None }

-- the worker has seen the book
abbrev pub seeing : Sight → BookView → Sight
seeing s book = record { worker = s.worker; seen = book; stopped = s.stopped; stopped_by = s.stopped_by }

-- the worker has stopped the service
abbrev pub stopping : Sight → Sight
stopping s = record { worker = s.worker; seen = s.seen; stopped = true; stopped_by = s.stopped_by }

-- the worker heard who has stopped the service
abbrev pub hearing : Sight → WorkerId → Sight
hearing s w = record { worker = s.worker; seen = s.seen; stopped = s.stopped; stopped_by = Some w }

-- a seat of one worker, which holds nothing
abbrev pub one : Option Ledger → Sight → SeatView
one l s = record { sights = s ∷ []; out = None; ledger = l }

-- the same while it holds the book
abbrev pub holding : Option Ledger → Sight → SeatView
holding l s = record { sights = s ∷ []; out = Some s.seen; ledger = l }

-- a seat without a worker
abbrev pub nobody : SeatView
nobody = record { sights = []; out = None; ledger = None }

-- a seat with several workers, which holds nothing
abbrev pub all_of : Option Ledger → List Sight → SeatView
all_of l ss = record { sights = ss; out = None; ledger = l }

-- the first sights of so many workers, from w on
abbrev pub sights_from : ℕ → ℕ → BookView → List Sight
sights_from w zero book = []
sights_from w (suc n) book = sight w book ∷ sights_from (suc w) n book

abbrev pub starting : KeptView → SeatView
starting kept = all_of kept.ledger (sights_from 0 kept.book.graph.workers kept.book)

abbrev pub no_graph : GraphView
no_graph = record { locks = 0; all = None; workers = 0; max_leases = 0; units = 0; tasks = []; actions = [] }

abbrev pub no_book : BookView
no_book = record { graph = no_graph; state = opening_of no_graph; history = []; given = 0; spare_entries = 0; spare_changes = 0 }

abbrev pub first_or : Sight → List Sight → Sight
first_or s [] = s
first_or s (x ∷ xs) = x

-- the sight of a seat with one worker
abbrev pub sight_of : SeatView → Sight
sight_of v = first_or (sight 0 no_book) v.sights

-- so many workers, from w on
abbrev pub workers_from : ℕ → ℕ → List ℕ
workers_from w zero = []
workers_from w (suc n) = w ∷ workers_from (suc w) n
