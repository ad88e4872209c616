pub mod After
pub mod Resumed
pub mod Turns
pub mod NextWork
