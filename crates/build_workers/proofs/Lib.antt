pub mod lemmas
mod Keeping
mod Points
mod Choosing
mod Sending
mod Stepping
mod Helping
mod ChosenBehind
mod Failing
mod SiteUnits
mod Tallied
