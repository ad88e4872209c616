pub mod lemmas
pub mod Steps
pub mod Makings
pub mod Skipped
pub mod NoMore
pub mod Taken
pub mod Freed
pub mod Named
pub mod TakenUp
pub mod SetDown
pub mod Most
mod Admitting
pub mod FewAllowed
mod SameChanges
