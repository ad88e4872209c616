pub mod Bodies
pub mod Spelling
pub mod StreamStart
