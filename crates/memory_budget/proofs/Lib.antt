pub mod SumsBelow
pub mod SumsKept
pub mod Stopping
pub mod Permitted
pub mod WithinKept
