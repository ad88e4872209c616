pub mod Finding
pub mod Taken
mod Straying
