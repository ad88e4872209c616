pub mod lemmas
pub mod Supplies
pub mod Keeping
pub mod Verdicts
pub mod Passing
pub mod Steps
pub mod OneAnswer
pub mod Given
pub mod PlainGraphs
pub mod Decided
pub mod EndLines
pub mod Rooms
pub mod Admissions
mod Closings
mod Drives
pub mod Answering
