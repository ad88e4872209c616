pub mod lemmas
mod Readings
mod Checks
mod Agains
mod PlansOwn
