pub mod Merged
pub mod Updates
pub mod Loops
