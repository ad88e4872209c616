pub mod ProjectLocks
pub mod Shows
