pub mod Unmapping
pub mod Deciding
pub mod Stages
pub mod Runs
