pub mod MemoryDeskView
pub mod Replies
