pub mod lemmas
mod Answering
mod Digits
mod Gathering
mod Taking
