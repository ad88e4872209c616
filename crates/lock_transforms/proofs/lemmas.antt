pub mod Disabled
pub mod Locking
pub mod Recalled
pub mod Rooms
pub mod Waits
pub mod Within
