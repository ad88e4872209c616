-- The steps of a history: each change of its entries in order, with the number of its entry and the worker.
use Rattle.std.specs.Prelude.{ℕ, ◌+◌, List, [], ◌∷◌, ◌++◌, Option, None, Some}
use Rattle.lock_journal.specs.Names.{WorkerId, Change, Entry}

pub record Step : Type 0 where
  pub entry : ℕ
  pub worker : WorkerId
  pub change : Change

abbrev pub step : ℕ → WorkerId → Change → Step
step n w c = record { entry = n; worker = w; change = c }

-- a failed entry changes nothing
abbrev pub changes_in : Option (List Change) → List Change
changes_in None = []
changes_in (Some cs) = cs

abbrev pub steps_of : ℕ → WorkerId → List Change → List Step
steps_of n w [] = []
steps_of n w (c ∷ cs) = step n w c ∷ steps_of n w cs

-- those of entries that are numbered from n on
abbrev pub steps_from : ℕ → List Entry → List Step
steps_from n [] = []
steps_from n (e ∷ es) = steps_of n e.worker (changes_in e.changes) ++ steps_from (n + 1) es
