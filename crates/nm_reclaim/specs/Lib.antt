pub mod Reclaims
pub mod Swept
pub mod Sweeping
pub mod Runs
pub mod Tasks
