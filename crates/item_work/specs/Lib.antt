pub mod Requests
pub mod Sends
pub mod Tallying
pub mod Searching
