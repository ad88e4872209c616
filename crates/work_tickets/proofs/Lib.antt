pub mod Beginnings
pub mod Totals
pub mod GoingOn
pub mod Counting
pub mod Together
pub mod Moves
pub mod Seating
