pub mod Views
pub mod Slots
pub mod Positions
pub mod Found
pub mod Rising
