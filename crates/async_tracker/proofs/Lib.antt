pub mod lemmas
pub mod Claiming
pub mod Parking
pub mod TaskSteps
pub mod QueuedItems
pub mod AfterClosing
pub mod AfterEnding
pub mod QueuedClaims
