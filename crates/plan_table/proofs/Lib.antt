pub mod lemmas
pub mod DocumentLaws
pub mod Counting
pub mod Fitting
pub mod Looking
pub mod TakenOut
