pub mod BlockedView
pub mod Sections
