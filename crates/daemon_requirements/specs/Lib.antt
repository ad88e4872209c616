pub mod Covers
pub mod HeldFieldsView
pub mod RequirementsView
pub mod Refusals
pub mod Rules
