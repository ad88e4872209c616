pub mod Sayings
pub mod Covering
pub mod Keys
pub mod Changes
pub mod Standing
pub mod Counted
pub mod Queued
