pub mod lemmas
pub mod Claiming
pub mod TaskSteps
pub mod TaskMoves
pub mod TaskActions
pub mod TaskEnds
pub mod AtOnce
