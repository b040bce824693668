pub mod Lists
pub mod Order
pub mod Entries
pub mod Rows
pub mod Moves
pub mod Nearest
