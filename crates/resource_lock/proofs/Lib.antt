pub mod lemmas
pub mod Follows
pub mod NumberRanges
pub mod TaskRows
pub mod Noting
pub mod FitParts
pub mod TakenBack
pub mod Holding
mod Finding
