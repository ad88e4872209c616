-- The rule of the table. Word 0 is 0 while no seat holds the book, and slot 0 has it then. It is 1 while one does, or 2 where others
-- may sleep until it is back. Word 1 is 1 more than the worker that stopped the service, or 0.
use Rattle.std.specs.Prelude.{◌≡◌, ◌≢◌, ℕ, suc, ◌-◌, ◌<◌, ◌≤◌, ◌^◌, true, List, [], ◌∷◌, ◌++◌, Option, Some}
use Rattle.std.specs.Prelude.{None, length, map, slice_index}
use Rattle.std.specs.List.{All}
use mathlib.Core.Option.{some, none}
use mathlib.Core.Option as maybe
use lib.ListN.{get_elem?}
use Rattle.atomic_table.specs.Table.{State, Me, Step}
use Rattle.lock_journal.specs.Names.{GraphView, WorkerId, Entry, BookView, NoneOf}
use Rattle.coordination.specs.declared.rule.Sight.{Sight}
use Rattle.coordination.specs.declared.rule.SeatView.{SeatView}
use Rattle.worker_notes.specs.Agrees.{Agrees, Finds, IsSoundBook}
use Rattle.coordination.specs.Kept.{KeptView, kept}
use Rattle.coordination.specs.Sights.{seeing, stopping, hearing, one, holding, all_of, no_book, sight_of, workers_from}
use Rattle.coordination.specs.Stops.{KnowsNoStop}
use Rattle.logbook.specs.Pages.{Book as Ledger}

-- what is so of each worker of the view at a seat
pub record FitsSight (n mark : ℕ) (book : BookView) (owner : ℕ → ℕ) (seat : ℕ) (s : Sight) : Type 0 where
  pub known : s.worker.0 < n
  pub agrees : Agrees s.worker s.seen book
  pub seated : owner s.worker.0 ≡ seat
  pub stopped : s.stopped ≡ true → mark ≡ suc s.worker.0
  pub stops : mark ≡ suc s.worker.0 → s.stopped ≡ true
  pub stopped_by : (w : WorkerId) → s.stopped_by ≡ Some w → mark ≡ suc w.0

abbrev pub OutFits : Option ℕ → BookView → ℕ → SeatView → Type 0
OutFits None book j v = v.out ≡ None
OutFits (Some k) book j v = (j ≡ k → (v.out ≡ Some book) × (0 < length v.sights)) × (j ≢ k → v.out ≡ None)

-- what word 0 may be
abbrev pub TellsHolder : ℕ → Option ℕ → Type 0
TellsHolder n None = n ≡ 0
TellsHolder n (Some k) = 0 < n

abbrev pub home_of : Option ℕ → KeptView → maybe.Option KeptView
home_of None x = some x
home_of (Some k) x = none

-- One sound book of the graph, with which each worker's sight agrees. Each worker sits at one seat, which knows the ledger, and one
-- seat at most holds the book. The mark names a worker, or nobody.
pub record Orderly (g : GraphView) (s : State KeptView SeatView) : Type 0 where
  pub book : BookView
  pub ledger : Option Ledger
  pub mark : ℕ
  pub owner : ℕ → ℕ
  pub holder : Option ℕ
  pub graph : book.graph ≡ g
  pub sound : IsSoundBook book
  pub wide : length s.words ≡ 2
  pub deep : length s.homes ≡ 1
  pub busy : TellsHolder (slice_index s.words 0) holder
  pub mark_is : slice_index s.words 1 ≡ mark
  pub named : mark ≤ g.workers
  pub small : g.workers < 2 ^ 32
  pub home : get_elem? s.homes 0 ≡ some (home_of holder (kept book ledger))
  pub inside : (k : ℕ) → holder ≡ Some k → k < length s.views
  pub fits : (j : ℕ) (v : SeatView) → get_elem? s.views j ≡ some v → All (FitsSight g.workers mark book owner j) v.sights × OutFits holder book j v
  pub known : (j : ℕ) (v : SeatView) → get_elem? s.views j ≡ some v → 0 < length v.sights → v.ledger ≡ ledger

abbrev pub M : Type 0
M = Me KeptView SeatView

-- The book was found and taken.
pub record Taken (m m' : M) : Type 0 where
  pub book : BookView
  pub found : Finds (sight_of m.0).worker (sight_of m.0).seen book
  pub is : m' ≡ (holding m.0.ledger (seeing (sight_of m.0) book), (0, kept book m.0.ledger) ∷ [])

abbrev pub taken : Step KeptView → M → ℕ → M → Type 0
taken st m r m' = (r ≡ 0 → Taken m m') × (r ≢ 0 → m' ≡ m)

-- A seat with the sights of all workers found the book and took it. It keeps the sights, and each agrees with the book.
pub record TakenForGood (m m' : M) : Type 0 where
  pub book : BookView
  pub mark : ℕ
  pub sound : IsSoundBook book
  pub all : map (λ s. s.worker.0) m.0.sights ≡ workers_from 0 book.graph.workers
  pub named : mark ≤ book.graph.workers
  pub agrees : All (λ s. Agrees s.worker s.seen book) m.0.sights
  pub stops : All (λ s. mark ≡ suc s.worker.0 → s.stopped ≡ true) m.0.sights
  pub stopped_by : All (λ s. (w : WorkerId) → s.stopped_by ≡ Some w → mark ≡ suc w.0) m.0.sights
  pub is : m' ≡ (record { sights = m.0.sights; out = Some book; ledger = m.0.ledger }, (0, kept book m.0.ledger) ∷ [])

-- no other seat has a sight, so none could have the book
abbrev pub taken_for_good : Step KeptView → M → ℕ → M → Type 0
taken_for_good st m r m' = (r ≡ 0) × TakenForGood m m'

abbrev pub carried_book : List (ℕ × KeptView) → BookView
carried_book [] = no_book
carried_book (x ∷ xs) = x.1.book

-- the book went back, and the worker has seen it
abbrev pub put_back : Step KeptView → M → ℕ → M → Type 0
put_back st m r m' = m' ≡ (one m.0.ledger (seeing (sight_of m.0) (carried_book m.1)), [])

-- the worker that a mark names
abbrev pub marked : ℕ → WorkerId
marked r = record { 0 = r - 1 }

-- the worker hears which worker has stopped the service
pub record Hears (m : M) (by : WorkerId) (m' : M) : Type 0 where
  pub stopper : by.0 < (sight_of m.0).seen.graph.workers
  pub is : m' ≡ (one m.0.ledger (hearing (sight_of m.0) by), [])

-- the worker has stopped the service, or hears who did
abbrev pub stopped_at : Step KeptView → M → ℕ → M → Type 0
stopped_at st m r m' = (r < 2 ^ 32) × (r ≡ 0 → m' ≡ (one m.0.ledger (stopping (sight_of m.0)), [])) × (r ≢ 0 → Hears m (marked r) m')

-- the worker hears who has stopped the service, if somebody has, and knew of no stop if nobody has
abbrev pub heard : Step KeptView → M → ℕ → M → Type 0
heard st m r m' = (r < 2 ^ 32) × (r ≡ 0 → (m' ≡ m) × KnowsNoStop (sight_of m.0)) × (r ≢ 0 → Hears m (marked r) m')

abbrev pub heads : List Sight → List Sight
heads [] = []
heads (s ∷ ss) = s ∷ []

abbrev pub tails : List Sight → List Sight
tails [] = []
tails (s ∷ ss) = ss

abbrev pub first_sight : SeatView → SeatView
first_sight v = all_of v.ledger (heads v.sights)

abbrev pub other_sights : SeatView → SeatView
other_sights v = record { sights = tails v.sights; out = v.out; ledger = v.ledger }

abbrev pub both_sights : SeatView → SeatView → SeatView
both_sights v w = record { sights = v.sights ++ w.sights; out = v.out; ledger = w.ledger }

-- Only the worker's own entries were added to the book that it saw, of the same graph, and the book is still sound.
pub record AddsOwn (s : Sight) (book : BookView) : Type 0 where
  pub more : List Entry
  pub graph : book.graph ≡ s.seen.graph
  pub history : book.history ≡ s.seen.history ++ more
  pub own : (w : WorkerId) → w.0 ≢ s.worker.0 → NoneOf w more
  pub sound : IsSoundBook s.seen → IsSoundBook book
