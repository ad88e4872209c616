pub mod Adding
pub mod Chains
pub mod Running
pub mod Showing
