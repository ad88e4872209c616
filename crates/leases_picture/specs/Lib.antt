pub mod Found
pub mod Taking
pub mod Ends
pub mod Pictured
