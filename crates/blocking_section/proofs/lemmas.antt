pub mod Stays
pub mod Up
