pub mod Failing
pub mod Worked
pub mod Watching
pub mod Prepared
pub mod Rooms
pub mod Books
