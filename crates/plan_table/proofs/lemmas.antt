pub mod FirstAnswers
pub mod FirstLaws
pub mod FirstPlaces
pub mod FormedLaws
pub mod Lists
pub mod LookLaws
pub mod Positions
