pub mod Added
pub mod Counts
pub mod Made
pub mod Pieces
mod Worked
pub mod Filtered
