pub mod Entries
pub mod FewMarks
pub mod Growing
pub mod LocksOnTheWay
pub mod Nothing
pub mod OnTheWay
