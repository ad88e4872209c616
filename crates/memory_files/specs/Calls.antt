-- The calls on an object in memory, some of which are made to fail.
use Rattle.std.specs.Prelude.{ℕ, ◌==◌, List, Bool, if◌then◌else◌}
use Rattle.std.specs.List.{list_any}
use Rattle.file_access.specs.Calls.{next}

-- how many calls were made, the numbers of those that fail, and how many failed
pub record CallsView : Type 0 where
  pub failing : List ℕ
  pub made : ℕ
  pub faults : ℕ

abbrev pub no_calls : List ℕ → CallsView
no_calls failing = record { failing = failing; made = 0; faults = 0 }

-- calls are numbered from 0, and the next one is named
abbrev pub next_fails : CallsView → Bool
next_fails log = list_any (λ number. number == log.made) log.failing

-- the log after one more call
abbrev pub after_call : Bool → CallsView → CallsView
after_call failed log = record log { made = next log.made; faults = if failed then next log.faults else log.faults }
