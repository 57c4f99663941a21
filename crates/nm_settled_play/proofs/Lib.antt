pub mod Ending
pub mod Marking
