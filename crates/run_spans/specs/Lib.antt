pub mod Steps
pub mod Subjects
pub mod Spans
pub mod Tail
pub mod Levels
pub mod Covering
pub mod Standing
