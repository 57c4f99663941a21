pub mod Freed
pub mod FreedCounts
pub mod Obtaining
pub mod Obtains
pub mod Searching
pub mod Runs
