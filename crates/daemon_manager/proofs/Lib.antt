pub mod lemmas
pub mod IdleKept
pub mod EventLogKept
pub mod Lawful
pub mod Legality
pub mod Order
pub mod Ordering
