pub mod Layout
pub mod Totals
pub mod Panels
pub mod Occupancy
pub mod Columns
pub mod Overview
