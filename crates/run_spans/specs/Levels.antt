-- How many leases are out and how many units queued after each entry.
use Rattle.std.specs.Prelude.{ℕ, ◌+◌, ◌-◌, ◌^◌, min, List, [], ◌∷◌, count_by}
use Rattle.lock_journal.specs.Names.{same_mark, StateView, Queued, UnitOf, Change, Take, Give, Move, Entry}
use Rattle.run_spans.specs.Steps.{changes_in}
use Rattle.run_spans.specs.declared.levels.Level.{Level}

-- one more, up to 2 ^ 64 - 1
abbrev pub up : ℕ → ℕ
up n = min (n + 1) (2 ^ 64 - 1)

abbrev pub after_change : Level → Change → Level
after_change v Take = record v { out = up v.out }
after_change v Give = record v { out = v.out - 1 }
after_change v (Move (UnitOf u) from Queued) = record v { queued = up v.queued }
after_change v (Move (UnitOf u) Queued to) = record v { queued = v.queued - 1 }
after_change v _ = v

abbrev pub after_changes : Level → List Change → Level
after_changes v [] = v
after_changes v (c ∷ cs) = after_changes (after_change v c) cs

abbrev pub nothing_out : Level
nothing_out = record { out = 0; queued = 0 }

-- after each entry, behind a level
abbrev pub levels_of : Level → List Entry → List Level
levels_of v [] = []
levels_of v (e ∷ es) = after_changes v (changes_in e.changes) ∷ levels_of (after_changes v (changes_in e.changes)) es

-- how many units are queued in a state
abbrev pub units_queued : StateView → ℕ
units_queued s = count_by (λ m. same_mark m Queued) s.units
