pub mod Copying
pub mod Zeroing
pub mod Runs
