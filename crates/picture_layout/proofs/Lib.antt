pub mod Counts
pub mod Made
pub mod Viewed
pub mod Below
pub mod Levels
pub mod Rising
pub mod Carrying
pub mod Swept
