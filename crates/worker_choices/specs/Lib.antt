pub mod Stances
pub mod NextSteps
pub mod Choices
pub mod GoingOn
pub mod NoWork
