pub mod lemmas
pub mod Names
pub mod Taking
pub mod HandingBack
