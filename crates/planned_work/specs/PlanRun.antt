-- A run of a plan whose workers are in threads of somebody's own.
use Rattle.std.specs.Prelude.{ℕ, ◌≡◌, List, ◌++◌, length}
use Rattle.std.specs.List.{All}
use Rattle.item_actions.specs.declared.outcomes.Outcome.{Outcome}
use Rattle.lock_journal.specs.Names.{Good, GraphView, Lawful, Entry, replay, BookView, HasEnded, IsEnded, ComesTo, GivesClosedOutcomes, IsOrderly}
use Rattle.worker_notes.specs.Agrees.{IsSoundBook}
use Rattle.coordination.specs.declared.rule.Sight.{Sight}

-- The book that the worker has seen is sound, and all tasks have ended there, as it was told (`IsToldTheEnd`).
pub record HasSeenTheEnd (s : Sight) : Type 0 where
  pub sound : IsSoundBook s.seen
  pub ended : All IsEnded s.seen.state.tasks

-- The book is that of a whole run of the graph's plan.
pub record IsPlanRun (g : GraphView) (b : BookView) : Type 0 where
  pub graph : b.graph ≡ g
  -- each entry is allowed where it stands, and the state is what they lead to
  pub lawful : Lawful g b.history
  pub replays : b.state ≡ replay g b.history
  -- so is the state between any two entries a good one: at most so many leases are out, and each lock has one owner at most
  pub always_good : (front later : List Entry) → b.history ≡ front ++ later → Good (replay g front)
  -- each mark has ended
  pub ended : HasEnded b.state
  -- each task was started or skipped once, each closed item claimed once and closed once
  pub order : IsOrderly g b.history
  -- marks and outcomes are those of the plan, whatever gives each closed unit the outcome of its closing entry
  pub results : (v : ℕ → Outcome) → GivesClosedOutcomes v b.history → ComesTo g b.history v (length g.tasks)
