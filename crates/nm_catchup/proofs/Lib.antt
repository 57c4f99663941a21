pub mod Acts
pub mod Entries
pub mod Loops
pub mod Catching
