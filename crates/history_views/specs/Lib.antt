pub mod Boards
pub mod Growing
pub mod ShownBooks
