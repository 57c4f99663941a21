pub mod Places
pub mod Leaving
pub mod Opened
pub mod Tasks
pub mod Runs
