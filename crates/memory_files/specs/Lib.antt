pub mod Calls
pub mod Folders
pub mod Memory
