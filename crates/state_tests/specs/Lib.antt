pub mod Rows
pub mod Sizes
