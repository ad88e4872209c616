pub mod lemmas
pub mod SortedLists
pub mod Rising
pub mod Following
pub mod HandedBack
pub mod ItemEntries
pub mod KnownChanges
pub mod Sleeping
