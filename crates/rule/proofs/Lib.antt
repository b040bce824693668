pub mod Lists
pub mod Order
pub mod Rows
pub mod Moves
pub mod Nearest
pub mod Scans
pub mod Worked
