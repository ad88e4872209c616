pub mod Numbered
pub mod Shown
pub mod Told
