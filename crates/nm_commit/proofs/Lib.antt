pub mod Moved
pub mod Unmapped
pub mod Changed
pub mod Runs
pub mod Aborting
pub mod Committing
pub mod Steps
