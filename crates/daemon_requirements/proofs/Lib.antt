mod Coverings
mod Membership
mod Twice
