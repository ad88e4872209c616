pub mod TwoItems
