pub mod Closing
pub mod Helping
