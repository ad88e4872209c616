pub mod lemmas
pub mod After
pub mod Down
pub mod Entered
pub mod Left
pub mod Ready
