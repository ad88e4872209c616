pub mod lemmas
mod AtFirst
mod AtTheEnd
mod Begun
mod Failing
mod FileNames
mod Joined
mod Places
mod PlannedUnits
mod Ranks
mod Seated
mod Seating
mod Tallied
mod Untouched
mod Watched
