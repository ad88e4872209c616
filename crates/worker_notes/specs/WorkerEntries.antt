-- How many entries of a history are a worker's, and which of them is the last.
use Rattle.std.specs.Prelude.{ℕ, suc, ◌==◌, if◌then◌else◌, List, [], ◌∷◌, count_by}
use Rattle.lock_journal.specs.Names.{WorkerId, Entry}

-- the number of the worker's last entry, where entries are counted from n + 1 on, or `found`
abbrev pub last_in : ℕ → ℕ → WorkerId → List Entry → ℕ
last_in n found w [] = found
last_in n found w (e ∷ es) = last_in (suc n) (if e.worker.0 == w.0 then suc n else found) w es

-- the number of the worker's last entry, counted from 1 on, or 0
abbrev pub last_of : WorkerId → List Entry → ℕ
last_of w history = last_in 0 0 w history

-- how many entries are the worker's
abbrev pub entry_count_of : WorkerId → List Entry → ℕ
entry_count_of w history = count_by (λ e. e.worker.0 == w.0) history
