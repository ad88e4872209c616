pub mod Watches
pub mod Looks
