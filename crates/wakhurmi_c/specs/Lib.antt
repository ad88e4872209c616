-- What the contracts of the library say.
pub mod Calls
pub mod Closed
pub mod Leaves
pub mod Locks
pub mod Numbers
pub mod Opened
pub mod Owned
pub mod Places
pub mod Taken
pub mod Texts
pub mod Uses
pub mod OutcomeCalls
pub mod PlanCalls
pub mod PlanNumbers
pub mod PlannedCalls
pub mod PlannedOpening
