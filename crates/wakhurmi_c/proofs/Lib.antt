-- The values of handles, and how many there are.
mod Causes
mod Counting
mod Gathering
pub mod HeldBookValues
pub mod HeldPartValues
pub mod HeldPlanValues
pub mod HeldPlannedValues
pub mod HeldValues
mod Numbered
mod PlannedTold
mod PlannedWhole
pub mod Values
mod Whole
