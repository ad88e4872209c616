-- What holds after an entry, by the steps up to it alone, and which spans cover the entry.
use Rattle.std.specs.Prelude.{ℕ, ◌≡◌, ◌<◌, ◌≤◌, ◌⊎◌, nat_eq, List, [], ◌∷◌, Option, None, Some, take, if◌then◌else◌}
use Rattle.lock_journal.specs.Names.{WorkerId, Entry}
use Rattle.run_spans.specs.Steps.{Step, steps_from}
use Rattle.run_spans.specs.Subjects.{begins, key_of}
use Rattle.run_spans.specs.Spans.{step_key}
use Rattle.run_spans.specs.declared.spans.Span.{Span}

-- the worker of a step that says that its subject holds
abbrev pub held_by : Step → Option WorkerId
held_by x = if begins x.change then Some x.worker else None

-- the worker for which the subject of a key holds after some steps, if it holds: what the last step says that speaks of it
abbrev pub holder : List Step → ℕ → Option WorkerId → Option WorkerId
holder [] q was = was
holder (x ∷ xs) q was = holder xs q (if nat_eq q (step_key x) then held_by x else was)

-- after the first k entries
abbrev pub holder_after : List Entry → ℕ → ℕ → Option WorkerId
holder_after es k q = holder (steps_from 1 (take k es)) q None

-- The span tells of the subject of a key that it holds for a worker after the entry k.
pub record Covers (q : ℕ) (w : WorkerId) (k : ℕ) (s : Span) : Type 0 where
  pub subject : key_of s.subject ≡ q
  pub worker : s.worker ≡ w
  pub from : s.from ≤ k
  pub until : k < s.until

-- one of the spans does
abbrev pub Covered : ℕ → WorkerId → ℕ → List Span → Type 0
Covered q w k [] = ⊥
Covered q w k (s ∷ ss) = Covers q w k s ⊎ Covered q w k ss
