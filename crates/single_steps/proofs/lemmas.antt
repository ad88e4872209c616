pub mod After
pub mod Resumed
pub mod Turns
