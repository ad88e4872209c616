-- How much a state has.
use Rattle.std.specs.Prelude.{ℕ, ◌≡◌, length}
use Rattle.resource_lock.specs.StateView.{StateView}

-- a state of two locks, three workers and two tasks
pub record HasSizes (s : StateView) : Type 0 where
  pub locks : length s.owners ≡ 2
  pub workers : length s.holdings ≡ 3
  pub tasks : length s.tasks ≡ 2
