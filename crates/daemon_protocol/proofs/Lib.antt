pub mod lemmas
pub mod Starting
mod Names
mod Parts
mod Sizes
mod Spelled
mod Unspelled
