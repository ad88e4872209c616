mod Honesty
mod Told
