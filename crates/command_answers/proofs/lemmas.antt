pub mod Reports
pub mod Commands
pub mod Completing
pub mod Reserving
