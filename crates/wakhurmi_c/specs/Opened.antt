-- A service that was opened, as its workers see it.
use Rattle.std.specs.Prelude.{◌≡◌, ℕ, ◌-◌, Bool, true, false, List, [], Option, None, Some, map, ⊤}
use Rattle.std.specs.List.{All}
use Rattle.atomic_table.specs.Seated.{TableId}
use Rattle.lock_journal.specs.Names.{BookView, IsAtRest, Fits, made_of, LockId}
use Rattle.coordination.specs.Names.{PassView, sights_from}
use Rattle.wakhurmi_c.specs.declared.answers.Answer.{Answer}
use Rattle.wakhurmi_c.specs.declared.answers.Answer.TheVariants.{NoMemory, BadNumber}

-- the last of so many locks, if so
abbrev pub last_if : Bool → ℕ → Option LockId
last_if true locks = Some (record { 0 = locks - 1 })
last_if false locks = None

-- They have all seen one book of these numbers, which fit, with this all-projects lock or none, in which nobody has anything. It has no
-- entries. Each has seen it by its number, and they share one service.
pub record IsOpened (workers max_leases locks : ℕ) (all : Option LockId) (ps : List PassView) : Type 0 where
  pub book : BookView
  pub service : TableId
  pub fits : Fits (made_of locks all workers max_leases [] [])
  pub graph : book.graph ≡ made_of locks all workers max_leases [] []
  pub rest : IsAtRest book.state
  pub history : book.history ≡ []
  pub passes : map (λ p. p.sight) ps ≡ sights_from 0 workers book
  pub shared : All (λ p. p.service.table ≡ service) ps

-- Why a service of these numbers isn't opened: no graph of them fits, or memory is wanting.
abbrev pub WhyUnopened : ℕ → ℕ → ℕ → Option LockId → Answer → Type 0
WhyUnopened workers max_leases locks all BadNumber = Fits (made_of locks all workers max_leases [] []) → ⊥
WhyUnopened workers max_leases locks all NoMemory = ⊤
WhyUnopened workers max_leases locks all _ = ⊥
