pub mod OpenItems
pub mod Parked
