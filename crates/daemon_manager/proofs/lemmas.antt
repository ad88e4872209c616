pub mod Appending
pub mod PoolKept
pub mod Asked
pub mod Coverings
