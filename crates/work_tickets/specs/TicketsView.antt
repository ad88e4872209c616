-- A queue of tickets, as contracts see it.
use Rattle.std.specs.Prelude.{ℕ}
use Rattle.atomic_table.specs.Seated.{TableId}

-- which queue it is, and how many seats it has
pub record QueueId : Type 0 where
  pub table : TableId
  pub seats : ℕ

-- which one it is, and how many tickets it has room for
pub record TicketsView : Type 0 where
  pub queue : QueueId
  pub capacity : ℕ
